-- A law for each way out of this crate's functions.
use Prim.Native.Nat.{ℕ, zero, suc, min, ◌+◌, ◌-◌, ◌*◌, ◌≤◌, ◌<◌}
use mathlib.Core.Path.{◌≡◌, refl, sym, ap, ◌∙◌}
use mathlib.Core.List.{List, []}
use mathlib.Core.Bool.{Bool, true, false}
use native.Mathlib.Omega.{arith}
use lib.ListN.{length, get_or, take, drop, length-drop}
use lib.Dec.{ltb, eqb}
use borrow.Author.Tests.{eq-eqb, ne_eqb, lt-ltb, le-ltb}
use Rattle.wire_read.specs.Wire.{number_at}
use Rattle.wire_read.specs.Tests.{if◌then◌otherwise◌}
use Rattle.wire_read.proofs.Laws.{number-one, number-join}
use Rattle.sa_attribute.specs.Attributes.{sent_fixed, value, attribute_type, attribute_size, after_attribute, find}

pub size-variable : (s : List ℕ) (b : Bool) (n : ℕ) → b ≡ sent_fixed s → n ≡ number_at 2 s 2 → b ≡ false → 4 + n ≡ attribute_size s
unfolding attribute_size
size-variable s b n eb en h = rw (← eb, h, en)

-- ---- value: n is the length of a value that is not sent fixed

module _ (a : List ℕ) (b : Bool) (eb : b ≡ sent_fixed a) where
  pub value-fixed : b ≡ true → (r : ℕ) → r ≡ number_at 2 a 2 → r ≡ value a
  unfolding value
  value-fixed h r e = rw (← eb, h) e

  module _ (variable : b ≡ false) (n : ℕ) (en : n ≡ number_at 2 a 2) where
    value_of : (k : ℕ) → min n 4 ≡ k → number_at k a 4 ≡ value a
    unfolding value
    value_of k h = rw (← eb, variable, ← en, h)

    pub value_none : n ≡ 0 → 0 ≡ value a
    unfolding number_at
    value_none z = value_of 0 (omega arith)

    pub value-one : n ≡ 1 → (r : ℕ) → r ≡ get_or a 4 0 → r ≡ value a
    value-one z r e = e ∙ sym (number-one a 4) ∙ value_of 1 (omega arith)

    pub value-two : n ≡ 2 → (r : ℕ) → r ≡ number_at 2 a 4 → r ≡ value a
    value-two z r e = e ∙ value_of 2 (omega arith)

    pub value-three : n ≡ 3 → (high low : ℕ) → high ≡ number_at 2 a 4 → low ≡ get_or a 6 0 → high * 256 + low ≡ value a
    value-three z high low eh el =
        let joined : number_at 3 a 4 ≡ high * 256 + low = rw (number-join 2 1 a 4, number-one a 6) (omega arith) in
        sym joined ∙ value_of 3 (omega arith)

    pub value_four : (n ≡ 0 → ⊥) → (n ≡ 1 → ⊥) → (n ≡ 2 → ⊥) → (n ≡ 3 → ⊥) → (r : ℕ) → r ≡ number_at 4 a 4 → r ≡ value a
    value_four n0 n1 n2 n3 r e = e ∙ value_of 4 (omega arith)

-- ---- find

find-step : (left t : ℕ) (s : List ℕ) → (left ≡ 0 → ⊥) →
    find left t s
    ≡ (if ltb (length s) 4 then []
    otherwise if eqb (attribute_type s) t then take (attribute_size s) s
    otherwise find (left - 1) t (drop (attribute_size s) s))
unfolding find after_attribute
find-step zero t s h = absurd (h refl)
find-step (suc left) t s h = let i : suc left - 1 ≡ left = omega arith in rw i

find_none : (k t : ℕ) (s : List ℕ) → length s < 4 → [] ≡ find k t s
unfolding find
find_none zero t s h = refl
find_none (suc k) t s h = rw (lt-ltb (length s) 4 h)

-- what is no longer than what lies from a place on does not run past the end
pub search_within : (at n : ℕ) (s here : List ℕ) → here ≡ drop at s → 4 ≤ length here → n ≤ length here → at + n ≤ length s
search_within at n s here eh long h = omega (arith, ap length eh ∙ length-drop at s)

-- after so many turns of at most `most`, what is left, from which on the search goes the way it goes from the start
module _ (most counter t : ℕ) (rest goal : List ℕ) (so_far : find (most - counter) t rest ≡ goal) where
  pub search_out : most ≤ counter → [] ≡ goal
  unfolding find
  search_out h = let none : most - counter ≡ 0 = omega arith in rw none at so_far

  pub search_end : length rest < 4 → [] ≡ goal
  search_end h = find_none (most - counter) t rest h ∙ so_far

  module _ (turn : counter < most) (long : 4 ≤ length rest) (u : ℕ) (eu : u ≡ attribute_type rest) where
    step : goal ≡ (if eqb u t then take (attribute_size rest) rest otherwise find (most - counter - 1) t (drop (attribute_size rest) rest))
    step = sym so_far ∙ find-step (most - counter) t rest (λ z. omega arith) ∙ rw (le-ltb (length rest) 4 long, ← eu)

    pub search_here : u ≡ t → (n : ℕ) → n ≡ attribute_size rest → (r : List ℕ) → r ≡ take n rest → r ≡ goal
    search_here h n en r e = rw (step, eq-eqb u t h, ← en) e

    pub search_on : (u ≡ t → ⊥) → (x : List ℕ) → x ≡ after_attribute rest → find (most - (counter + 1)) t x ≡ goal
    unfolding after_attribute
    search_on other x e =
        let left : most - (counter + 1) ≡ most - counter - 1 = omega arith in
        rw (left, e) (sym (step ∙ rw (ne_eqb u t other)))
