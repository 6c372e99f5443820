-- A law for each way out of the functions on transforms.
use Prim.Native.Nat.{ℕ, zero, suc, ◌+◌, ◌-◌, ◌≤◌, ◌<◌}
use mathlib.Core.Path.{◌≡◌, refl}
use mathlib.Core.List.{List}
use mathlib.Core.Bool.{Bool, true, false, not}
use native.Mathlib.Omega.{arith}
use lib.ListN.{length, get_or, take, drop}
use lib.Dec.{eqb}
use borrow.Author.Tests.{eq-eqb, ne_eqb, lt-ltb, le-ltb}
use Rattle.wire_read.specs.Wire.{number_at}
use Rattle.wire_read.specs.Tests.{if◌then◌otherwise◌}
use Rattle.sa_coding.specs.Coding.{attributes_code}
use Rattle.sa_transforms.specs.Transforms.{transform_wrong, transform_code, transforms_code}

module _ (exchange left least : ℕ) (s : List ℕ) (w : Bool) (ew : w ≡ transform_wrong left s) where
  pub transform_wrong_lem : w ≡ true → 15 ≡ transform_code exchange left least s
  unfolding transform_code
  transform_wrong_lem h = rw (← ew, h)

  module _ (right : w ≡ false) (number : ℕ) (en : number ≡ get_or s 4 0) where
    pub transform_low : number < least → 15 ≡ transform_code exchange left least s
    unfolding transform_code
    transform_low h = rw (← ew, right, ← en, lt-ltb number least h)

    pub transform-attributes : least ≤ number → (n r : ℕ) (whole rest : List ℕ) → n ≡ number_at 2 s 2 → whole ≡ take n s → rest ≡ drop 8 whole →
        r ≡ attributes_code exchange rest → r ≡ transform_code exchange left least s
    unfolding transform_code
    transform-attributes h n r whole rest el et ed er = rw (← ew, right, ← en, le-ltb number least h, ← el, ← et, ← ed) er

transforms-step : (count exchange least : ℕ) (s : List ℕ) → (count ≡ 0 → ⊥) →
    transforms_code count exchange least s
    ≡ (if not (eqb (transform_code exchange (count - 1) least s) 0) then transform_code exchange (count - 1) least s
    otherwise transforms_code (count - 1) exchange (get_or s 4 0 + 1) (drop (number_at 2 s 2) s))
unfolding transforms_code
transforms-step zero exchange least s h = absurd (h refl)
transforms-step (suc count) exchange least s h = let i : suc count - 1 ≡ count = omega arith in rw i

module _ (count exchange least : ℕ) (s : List ℕ) where
  pub transforms-end : count ≡ 0 → length s ≡ 0 → 0 ≡ transforms_code count exchange least s
  unfolding transforms_code
  transforms-end z h = rw (z, eq-eqb (length s) 0 h)

  pub transforms_over : count ≡ 0 → (length s ≡ 0 → ⊥) → 15 ≡ transforms_code count exchange least s
  unfolding transforms_code
  transforms_over z h = rw (z, ne_eqb (length s) 0 h)

  module _ (may : count ≡ 0 → ⊥) (code : ℕ) (ec : code ≡ transform_code exchange (count - 1) least s) where
    pub transforms-refused : (code ≡ 0 → ⊥) → code ≡ transforms_code count exchange least s
    transforms-refused h = rw (transforms-step count exchange least s may, ← ec, ne_eqb code 0 h)

    pub transforms-on : code ≡ 0 → (number n r : ℕ) (rest : List ℕ) → number ≡ get_or s 4 0 → n ≡ number_at 2 s 2 → rest ≡ drop n s →
        r ≡ transforms_code (count - 1) exchange (number + 1) rest → r ≡ transforms_code count exchange least s
    transforms-on h number n r rest en el er e = rw (transforms-step count exchange least s may, ← ec, h, ← en, ← el, ← er) e
