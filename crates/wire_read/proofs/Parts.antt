-- Parts one behind the other, whatever takes off the first: how they are skipped and counted, and a law for each way out of a function
-- that does so.
use Prim.Native.Nat.{ℕ, zero, suc, ◌+◌, ◌-◌, ◌≤◌, ◌<◌}
use mathlib.Core.Path.{◌≡◌, refl, sym, ◌∙◌}
use mathlib.Core.List.{List, []}
use mathlib.Core.Bool.{Bool, true, false}
use native.Mathlib.Omega.{arith}
use lib.ListN.{length, get_or, take}
use lib.Dec.{eqb}
use borrow.Author.Tests.{eq-eqb, ne_eqb}
use Rattle.wire_read.specs.Tests.{if◌then◌otherwise◌}
use Rattle.wire_read.specs.Parts.{skip, parts, numbered}

if_most : (b : Bool) (n m : ℕ) → n ≤ m → (if b then 0 otherwise 1 + n) ≤ suc m
if_most true n m h = omega arith
if_most false n m h = omega arith

module _ (rest : List ℕ → List ℕ) where
  skip_step : (k : ℕ) (s : List ℕ) → (k ≡ 0 → ⊥) → skip rest k s ≡ skip rest (k - 1) (rest s)
  unfolding skip
  skip_step zero s h = absurd (h refl)
  skip_step (suc k) s h = let i : suc k - 1 ≡ k = omega arith in rw i

  parts-step : (left : ℕ) (s : List ℕ) → (left ≡ 0 → ⊥) → parts rest left s ≡ (if eqb (length s) 0 then 0 otherwise 1 + parts rest (left - 1) (rest s))
  unfolding parts
  parts-step zero s h = absurd (h refl)
  parts-step (suc left) s h = let i : suc left - 1 ≡ left = omega arith in rw i

  -- no more parts are counted than may be
  parts-most : (left : ℕ) (s : List ℕ) → parts rest left s ≤ left
  unfolding parts
  parts-most zero s = omega arith
  parts-most (suc left) s = if_most (eqb (length s) 0) (parts rest left (rest s)) left (parts-most left (rest s))

  pub parts_below : (left n : ℕ) (s : List ℕ) → n ≡ parts rest left s → n ≤ left
  parts_below left n s e = omega (arith, parts-most left s)

  pub parts_none : (left : ℕ) → parts rest left [] ≡ 0
  unfolding parts
  parts_none zero = refl
  parts_none (suc left) = refl

  pub parts_more : (left : ℕ) (s : List ℕ) → 0 < length s → parts rest (suc left) s ≡ suc (parts rest left (rest s))
  unfolding parts
  parts_more left s h = rw (ne_eqb (length s) 0 (λ z. omega arith)) (omega arith)

  pub skip-next : (k : ℕ) (s : List ℕ) → skip rest (suc k) s ≡ rest (skip rest k s)
  unfolding skip
  skip-next zero s = refl
  skip-next (suc k) s = skip-next k (rest s)

  -- where a loop over the parts stands: it has i behind it, of n at most, and these bytes before it
  module _ (n i : ℕ) (s : List ℕ) where
    module _ {goal : List ℕ} (so_far : skip rest (n - i) s ≡ goal) where
      pub skip-on : i < n → (t : List ℕ) → t ≡ rest s → skip rest (n - (i + 1)) t ≡ goal
      skip-on h t et =
          let fewer : n - i - 1 ≡ n - (i + 1) = omega arith in
          rw (et, ← fewer) (sym (skip_step (n - i) s (λ z. omega (arith, h, z))) ∙ so_far)

      pub skip_end : n ≤ i → s ≡ goal
      unfolding skip
      skip_end h = let none : n - i ≡ 0 = omega arith in rw none at so_far

    module _ {goal : ℕ} (so_far : i + parts rest (n - i) s ≡ goal) (empty : Bool) (ee : empty ≡ eqb (length s) 0) where
      pub parts-end : i < n → empty ≡ true → i ≡ goal
      parts-end h e =
          let step = parts-step (n - i) s (λ z. omega (arith, h, z)) in
          let none = rw (← ee, e) at step in
          omega (arith, so_far, none)

      pub parts-on : i < n → empty ≡ false → (t : List ℕ) → t ≡ rest s → i + 1 + parts rest (n - (i + 1)) t ≡ goal
      parts-on h more t et =
          let fewer : n - i - 1 ≡ n - (i + 1) = omega arith in
          let step = parts-step (n - i) s (λ z. omega (arith, h, z)) in
          let taken = rw (← ee, more, fewer) at step in
          rw et (omega (arith, so_far, taken))

    pub parts_all : {goal : ℕ} → i + parts rest (n - i) s ≡ goal → n ≤ i → i ≤ n → n ≡ goal
    unfolding parts
    parts_all so_far h k = let none : n - i ≡ 0 = omega arith in let all = rw none at so_far in omega arith

-- ---- the part with a number

module _ (first rest : List ℕ → List ℕ) (n i number : ℕ) (s goal : List ℕ) (so_far : numbered first rest (n - i) number s ≡ goal) where
  numbered-step : (left : ℕ) → (left ≡ 0 → ⊥) →
      numbered first rest left number s ≡ (if eqb (get_or s 4 0) number then first s otherwise numbered first rest (left - 1) number (rest s))
  unfolding numbered
  numbered-step zero h = absurd (h refl)
  numbered-step (suc left) h = let one : suc left - 1 ≡ left = omega arith in rw one

  module _ (h : i < n) (b : ℕ) (eb : b ≡ get_or s 4 0) where
    taken : numbered first rest (n - i) number s ≡ (if eqb b number then first s otherwise numbered first rest (n - i - 1) number (rest s))
    taken = rw eb (numbered-step (n - i) (λ z. omega (arith, h, z)))

    pub numbered-here : b ≡ number → (r : List ℕ) → r ≡ first s → r ≡ goal
    numbered-here e r er = er ∙ sym (rw (eq-eqb b number e) at taken) ∙ so_far

    pub numbered-on : (b ≡ number → ⊥) → (t : List ℕ) → t ≡ rest s → numbered first rest (n - (i + 1)) number t ≡ goal
    numbered-on other t et =
        let fewer : n - i - 1 ≡ n - (i + 1) = omega arith in
        rw (et, ← fewer) (sym (rw (ne_eqb b number other) at taken) ∙ so_far)

  pub numbered_none : n ≤ i → (r whole : List ℕ) → r ≡ take 0 whole → r ≡ goal
  unfolding numbered
  numbered_none h r whole er = let none : n - i ≡ 0 = omega arith in er ∙ (rw none at so_far)
