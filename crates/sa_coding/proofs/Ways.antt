-- A law for each way out of this crate's functions.
use Prim.Native.Nat.{ℕ, zero, suc, ◌+◌, ◌-◌, ◌*◌, ◌≤◌, ◌<◌}
use mathlib.Core.Path.{◌≡◌, refl, sym, ap, ◌∙◌}
use mathlib.Core.List.{List, ◌++◌}
use mathlib.Core.Bool.{Bool, true, false, not, ◌||◌, ◌&&◌}
use native.Mathlib.Omega.{arith}
use lib.ListN.{length, get_or, take, drop, length-drop}
use lib.Seq.{drop-drop, take-add}
use lib.Dec.{ltb, leb, eqb}
use borrow.Author.Tests.{eqb-true, eqb-false, eq-eqb, ne_eqb, ltb-false, lt-ltb, le-ltb, not-true, not-false}
use Rattle.wire_read.specs.Wire.{number_at}
use Rattle.wire_read.specs.Tests.{if◌then◌otherwise◌}
use Rattle.wire_read.proofs.Tests.{neither, by_test, passed}
use Rattle.sa_attribute.specs.Attributes.{sent_fixed, attribute_type, attribute_size, after_attribute}
use Rattle.sa_coding.specs.Coding.{out_of_bounds, must_be_fixed, fixed_wrong, is_duration, duration_wrong, is_life_type, value_length, from_value, whole_value, alike, repeats, stands_wrong, attribute_code, last_code, attributes_from}

-- ---- one attribute

module _ (exchange : ℕ) (s : List ℕ) (attributetype : ℕ) (fixed : Bool) (ea : attributetype ≡ attribute_type s) (ef : fixed ≡ sent_fixed s) where
  pub wrong_form : (must : Bool) → must ≡ must_be_fixed exchange attributetype → (must && not fixed) ≡ fixed_wrong exchange s
  unfolding fixed_wrong
  wrong_form must em = rw (← ea, ← em, ← ef)

  pub wrong_duration : (duration : Bool) (n : ℕ) → n ≡ number_at 2 s 2 → duration ≡ is_duration exchange attributetype →
      (duration && not fixed && not (leb 1 n && leb n 4)) ≡ duration_wrong exchange s
  unfolding duration_wrong
  wrong_duration duration n en ed = rw (← ea, ← ed, ← ef, ← en)

-- ---- whether two values spell the same number

module _ (s : List ℕ) (fixed : Bool) (ef : fixed ≡ sent_fixed s) where
  pub length_fixed : fixed ≡ true → 2 ≡ value_length s
  unfolding value_length
  length_fixed h = rw (← ef, h)

  pub length_variable : fixed ≡ false → (n : ℕ) → n ≡ number_at 2 s 2 → n ≡ value_length s
  unfolding value_length
  length_variable h n en = rw (← ef, h) en

  pub from_fixed : fixed ≡ true → (r : List ℕ) → r ≡ drop 2 s → r ≡ from_value s
  unfolding from_value
  from_fixed h r e = rw (← ef, h) e

  pub from_variable : fixed ≡ false → (r : List ℕ) → r ≡ drop 4 s → r ≡ from_value s
  unfolding from_value
  from_variable h r e = rw (← ef, h) e

pub byte-none : (n : ℕ) (s : List ℕ) → n ≡ 0 → 0 ≡ (if eqb n 0 then 0 otherwise get_or s (n - 1) 0)
byte-none n s z = rw (eq-eqb n 0 z)

pub byte_last : (n : ℕ) (s : List ℕ) → (n ≡ 0 → ⊥) → (r : ℕ) → r ≡ get_or s (n - 1) 0 → r ≡ (if eqb n 0 then 0 otherwise get_or s (n - 1) 0)
byte_last n s h r e = rw (ne_eqb n 0 h) e

-- a number is what all but its last byte spell, moved up, and the last
number-last : (n : ℕ) (s : List ℕ) → number_at n s 0 ≡ number_at (n - 1) s 0 * 256 + (if eqb n 0 then 0 otherwise get_or s (n - 1) 0)
unfolding number_at
number-last zero s = refl
number-last (suc n) s =
    let i : suc n - 1 ≡ n = omega arith in
    let place : 0 + n ≡ n = omega arith in
    rw (i, ne_eqb (suc n) 0 (λ z. omega arith)) (ap (λ (x : ℕ). number_at n s 0 * 256 + get_or s x 0) place)

same-last : (m n x y : ℕ) → x ≡ y → eqb (m * 256 + x) (n * 256 + y) ≡ eqb m n
same-last m n x y e =
    by_test (eqb m n)
    (λ h. rw h (eq-eqb (m * 256 + x) (n * 256 + y) (omega (arith, eqb-true m n h))))
    (λ h. rw h (ne_eqb (m * 256 + x) (n * 256 + y) (λ z. eqb-false m n h (omega arith))))

pub numbers_fall : (p q : ℕ) → (not (eqb p 0) || not (eqb q 0)) ≡ true → (p' q' : ℕ) → p' ≡ p - 1 → q' ≡ q - 1 → p' + q' < p + q
numbers_fall p q h p' q' ep eq =
    by_test (eqb p 0)
    (λ z. omega (arith, eqb-true p 0 z, eqb-false q 0 (not-true _ (rw z at h))))
    (λ z. omega (arith, eqb-false p 0 z))

module _ (n m : ℕ) (a b : List ℕ) (p q : ℕ) (so_far : eqb (number_at p a 0) (number_at q b 0) ≡ eqb (number_at n a 0) (number_at m b 0)) where
  pub numbers-end : (not (eqb p 0) || not (eqb q 0)) ≡ false → true ≡ eqb (number_at n a 0) (number_at m b 0)
  unfolding number_at
  numbers-end h =
      let two = neither (not (eqb p 0)) (not (eqb q 0)) h in
      rw (← so_far, eqb-true p 0 (not-false _ two.0), eqb-true q 0 (not-false _ two.1))

  module _ (x y : ℕ) (ex : x ≡ (if eqb p 0 then 0 otherwise get_or a (p - 1) 0)) (ey : y ≡ (if eqb q 0 then 0 otherwise get_or b (q - 1) 0)) where
    split : eqb (number_at n a 0) (number_at m b 0) ≡ eqb (number_at (p - 1) a 0 * 256 + x) (number_at (q - 1) b 0 * 256 + y)
    split = rw (← so_far, number-last p a, number-last q b, ← ex, ← ey)

    pub numbers_differ : x < 256 → y < 256 → (x ≡ y → ⊥) → false ≡ eqb (number_at n a 0) (number_at m b 0)
    numbers_differ hx hy d = sym (split ∙ ne_eqb (number_at (p - 1) a 0 * 256 + x) (number_at (q - 1) b 0 * 256 + y) (λ z. d (omega arith)))

    pub numbers_on : x ≡ y → (p' q' : ℕ) → p' ≡ p - 1 → q' ≡ q - 1 → eqb (number_at p' a 0) (number_at q' b 0) ≡ eqb (number_at n a 0) (number_at m b 0)
    numbers_on e p' q' ep eq = rw (ep, eq, split, same-last (number_at (p - 1) a 0) (number_at (q - 1) b 0) x y e)

pub values_same : (a b u v : List ℕ) (n m : ℕ) → n ≡ value_length a → u ≡ from_value a → m ≡ value_length b → v ≡ from_value b → (r : Bool) →
    r ≡ eqb (number_at n u 0) (number_at m v 0) → r ≡ eqb (whole_value a) (whole_value b)
unfolding whole_value
values_same a b u v n m en eu em ev r e = rw (← en, ← eu, ← em, ← ev) e

-- ---- where an attribute stands

module _ (exchange : ℕ) (a s : List ℕ) (t u : ℕ) (et : t ≡ attribute_type a) (eu : u ≡ attribute_type s) where
  pub alike_type : (t ≡ u → ⊥) → false ≡ alike exchange a s
  unfolding alike
  alike_type d = rw (← et, ← eu, ne_eqb t u d)

  module _ (same : t ≡ u) (life : Bool) (el : life ≡ is_life_type exchange u) where
    pub alike-single : not life ≡ true → true ≡ alike exchange a s
    unfolding alike
    alike-single h = rw (← et, ← eu, eq-eqb t u same, ← el, h)

    pub alike-value : not life ≡ false → (r : Bool) → r ≡ eqb (whole_value a) (whole_value s) → r ≡ alike exchange a s
    unfolding alike
    alike-value h r e = rw (← et, ← eu, eq-eqb t u same, ← el, h) e

repeats-step : (left exchange : ℕ) (before s : List ℕ) → (left ≡ 0 → ⊥) →
    repeats left exchange before s
    ≡ (if ltb (length before) 4 then false otherwise alike exchange before s || repeats (left - 1) exchange (drop (attribute_size before) before) s)
unfolding repeats after_attribute
repeats-step zero exchange before s h = absurd (h refl)
repeats-step (suc left) exchange before s h = let i : suc left - 1 ≡ left = omega arith in rw i

-- where the loop stands: it has i behind it, of n at most, and these bytes before it
module _ (n i exchange : ℕ) (rest s : List ℕ) {goal : Bool} (so_far : repeats (n - i) exchange rest s ≡ goal) where
  pub repeats-out : n ≤ i → false ≡ goal
  unfolding repeats
  repeats-out h = let none : n - i ≡ 0 = omega arith in rw none at so_far

  module _ (may : i < n) where
    step : repeats (n - i) exchange rest s ≡ (if ltb (length rest) 4 then false otherwise alike exchange rest s || repeats (n - i - 1) exchange (drop (attribute_size rest) rest) s)
    step = repeats-step (n - i) exchange rest s (λ z. omega (arith, may, z))

    pub repeats-end : length rest < 4 → false ≡ goal
    repeats-end h = sym (rw (lt-ltb (length rest) 4 h) at step) ∙ so_far

    module _ (long : 4 ≤ length rest) (b : Bool) (eb : b ≡ alike exchange rest s) where
      pub repeats-here : b ≡ true → true ≡ goal
      repeats-here h = sym (rw (le-ltb (length rest) 4 long, ← eb, h) at step) ∙ so_far

      pub repeats-on : b ≡ false → (size : ℕ) (next : List ℕ) → size ≡ attribute_size rest → next ≡ drop size rest → repeats (n - (i + 1)) exchange next s ≡ goal
      repeats-on h size next es en =
          let fewer : n - i - 1 ≡ n - (i + 1) = omega arith in
          rw (en, es, ← fewer) (sym (rw (le-ltb (length rest) 4 long, ← eb, h) at step) ∙ so_far)

module _ (exchange : ℕ) (behind : Bool) (before s : List ℕ) (t : ℕ) (et : t ≡ attribute_type s) (d : Bool) (ed : d ≡ is_duration exchange t) where
  pub stands_duration : d ≡ true → not behind ≡ stands_wrong exchange behind before s
  unfolding stands_wrong
  stands_duration h = rw (← et, ← ed, h)

  pub stands_other : d ≡ false → (r : Bool) → r ≡ repeats 16 exchange before s → (behind || r) ≡ stands_wrong exchange behind before s
  unfolding stands_wrong
  stands_other h r e = rw (← et, ← ed, h, ← e)

module _ (exchange : ℕ) (behind : Bool) (before s : List ℕ) (b : Bool) (eb : b ≡ out_of_bounds s) where
  pub code_bounds : b ≡ true → 15 ≡ attribute_code exchange behind before s
  unfolding attribute_code
  code_bounds h = rw (← eb, h)

  module _ (inside : b ≡ false) (w : Bool) (ew : w ≡ stands_wrong exchange behind before s) where
    pub code_stands : w ≡ true → 15 ≡ attribute_code exchange behind before s
    unfolding attribute_code
    code_stands h = rw (← eb, inside, ← ew, h)

    module _ (right : w ≡ false) (f : Bool) (ex : f ≡ fixed_wrong exchange s) where
      pub code_fixed : f ≡ true → 13 ≡ attribute_code exchange behind before s
      unfolding attribute_code
      code_fixed h = rw (← eb, inside, ← ew, right, ← ex, h)

      module _ (fine : f ≡ false) (d : Bool) (ed : d ≡ duration_wrong exchange s) where
        pub code_duration : d ≡ true → 13 ≡ attribute_code exchange behind before s
        unfolding attribute_code
        code_duration h = rw (← eb, inside, ← ew, right, ← ex, fine, ← ed, h)

        pub code_done : d ≡ false → 0 ≡ attribute_code exchange behind before s
        unfolding attribute_code
        code_done h = rw (← eb, inside, ← ew, right, ← ex, fine, ← ed, h)

-- a lawful attribute lies within its part
pub attribute-within : (exchange : ℕ) (behind : Bool) (before s : List ℕ) → attribute_code exchange behind before s ≡ 0 → attribute_size s ≤ length s
unfolding attribute_code out_of_bounds
attribute-within exchange behind before s h =
    let inside = passed (out_of_bounds s) 15 _ (λ z. omega arith) h in
    ltb-false _ _ (neither (ltb (length s) 4) (ltb (length s) (attribute_size s)) inside.0).1

-- ---- all of them

attributes-step : (left exchange : ℕ) (behind : Bool) (before s : List ℕ) → (left ≡ 0 → ⊥) →
    attributes_from left exchange behind before s
    ≡ (if eqb (length s) 0 then last_code behind
    otherwise if not (eqb (attribute_code exchange behind before s) 0) then attribute_code exchange behind before s
    otherwise attributes_from (left - 1) exchange (is_life_type exchange (attribute_type s)) (before ++ take (attribute_size s) s) (drop (attribute_size s) s))
unfolding attributes_from after_attribute
attributes-step zero exchange behind before s h = absurd (h refl)
attributes-step (suc left) exchange behind before s h = let i : suc left - 1 ≡ left = omega arith in rw i

-- at a place in all, from which on the reading goes the way it goes from the start
module _ (left exchange at : ℕ) (behind : Bool) (all : List ℕ) (goal : ℕ)
    (so_far : attributes_from left exchange behind (take at all) (drop at all) ≡ goal) where
  module _ (ends : length all ≤ at) where
    at-end : last_code behind ≡ goal
    unfolding attributes_from
    at-end = go left ∙ so_far
      where
        none : length (drop at all) ≡ 0
        none = omega (arith, length-drop at all)

        go : (k : ℕ) → last_code behind ≡ attributes_from k exchange behind (take at all) (drop at all)
        go zero = rw (eq-eqb (length (drop at all)) 0 none)
        go (suc k) = rw (eq-eqb (length (drop at all)) 0 none)

    pub attributes_unpaired : behind ≡ true → 15 ≡ goal
    unfolding last_code
    attributes_unpaired h = (rw h refl) ∙ at-end

    pub attributes-end : behind ≡ false → 0 ≡ goal
    unfolding last_code
    attributes-end h = (rw h refl) ∙ at-end

  module _ (more : at < length all) where
    some : length (drop at all) ≡ 0 → ⊥
    some z = omega (arith, length-drop at all)

    pub attributes-many : left ≡ 0 → 15 ≡ goal
    unfolding attributes_from
    attributes-many z = (rw (z, ne_eqb (length (drop at all)) 0 some) refl) ∙ so_far

    module _ (may : left ≡ 0 → ⊥) (before s : List ℕ) (eb : before ≡ take at all) (es : s ≡ drop at all) (code : ℕ)
        (ec : code ≡ attribute_code exchange behind before s) where
      turn : goal
          ≡ (if not (eqb code 0) then code
          otherwise attributes_from (left - 1) exchange (is_life_type exchange (attribute_type s)) (before ++ take (attribute_size s) s) (drop (attribute_size s) s))
      turn = rw (← so_far, attributes-step left exchange behind (take at all) (drop at all) may, ne_eqb (length (drop at all)) 0 some, ← es, ← eb, ← ec)

      pub attributes-refused : (code ≡ 0 → ⊥) → code ≡ goal
      attributes-refused h = rw (turn, ne_eqb code 0 h)

      module _ (fine : code ≡ 0) (n : ℕ) (en : n ≡ attribute_size s) where
        pub attributes-within : at + n ≤ length all
        attributes-within = omega (arith, attribute-within exchange behind before s (sym ec ∙ fine), ap length es ∙ length-drop at all)

        pub attributes-on : (t : ℕ) → t ≡ attribute_type s → (life : Bool) → life ≡ is_life_type exchange t →
            attributes_from (left - 1) exchange life (take (at + n) all) (drop (at + n) all) ≡ goal
        attributes-on t et life el = rw (turn, fine, ← en, ← et, ← el, take-add at n all, ← drop-drop n at all, ← es, ← eb)
