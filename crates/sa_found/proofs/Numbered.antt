-- What a number finds among parts that lie one behind the other, whatever they are: where it finds bytes, they are one of the parts, and
-- the number stands at its front.
use Prim.Native.Nat.{ℕ, zero, suc, ◌<◌}
use mathlib.Core.Path.{◌≡◌, refl, ap}
use mathlib.Core.List.{List, [], ◌∷◌}
use native.Mathlib.Omega.{arith}
use lib.ListN.{length, get_or, take, length-take}
use lib.Seq.{get_or-take}
use lib.Dec.{eqb}
use borrow.Author.Tests.{eqb-true}
use Rattle.wire_read.specs.Parts.{skip, parts, numbered}
use Rattle.wire_read.proofs.Tests.{by_test}
use Rattle.wire_read.proofs.Parts.{parts_more}

pub record Found (first rest : List ℕ → List ℕ) (left number : ℕ) (s : List ℕ) : Type 0 where
  pub place : ℕ
  pub below : place < left
  pub is : numbered first rest left number s ≡ first (skip rest place s)
  pub its_number : get_or (skip rest place s) 4 0 ≡ number

pub found : (first rest : List ℕ → List ℕ) (left number : ℕ) (s : List ℕ) → (length (numbered first rest left number s) ≡ 0 → ⊥) →
    Found first rest left number s
unfolding numbered skip
found first rest zero number s some = absurd (some refl)
found first rest (suc left) number s some =
    by_test (eqb (get_or s 4 0) number)
    (λ e. record { place = 0; below = omega arith; is = rw e; its_number = eqb-true _ _ e })
    (λ e.
    let later = found first rest left number (rest s) (rw e at some) in
    record { place = suc later.place; below = omega (arith, later.below); is = rw e later.is; its_number = later.its_number })

-- behind the last part is nothing
module _ (rest : List ℕ → List ℕ) (nothing : rest [] ≡ []) where
  pub skip-none : (k : ℕ) → skip rest k [] ≡ []
  unfolding skip
  skip-none zero = refl
  skip-none (suc k) = rw nothing (skip-none k)

  -- so what has bytes is counted
  pub skip-some : (k left : ℕ) (s : List ℕ) → k < left → 0 < length (skip rest k s) → k < parts rest left s
  unfolding skip
  skip-some k zero s h some = absurd (omega arith)
  skip-some k (suc left) [] h some = absurd (omega (arith, ap length (skip-none k)))
  skip-some zero (suc left) (b ∷ s) h some = omega (arith, parts_more rest left (b ∷ s) (omega arith))
  skip-some (suc k) (suc left) (b ∷ s) h some =
      omega (arith, parts_more rest left (b ∷ s) (omega arith), skip-some k left (rest (b ∷ s)) (omega arith) some)

-- a byte of a front part
pub front_byte : (n : ℕ) (s : List ℕ) (i : ℕ) → i < length (take n s) → get_or (take n s) i 0 ≡ get_or s i 0
front_byte n s i h = get_or-take n s i 0 (omega (arith, length-take n s))
