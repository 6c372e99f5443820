-- Words that are numbers, as the code's places in them find their digits.
use Prim.Native.Nat.{ℕ, ◌+◌, ◌*◌, ◌≤◌, ◌<◌}
use mathlib.Core.Path.{◌≡◌, refl, sym, ap, ◌∙◌}
use mathlib.Core.List.{List, [], ◌∷◌}
use mathlib.Core.Bool.{true, false, ◌&&◌, ◌||◌}
use native.Mathlib.Omega.{arith}
use lib.ListN.{length, get_or, drop, drop_of_length-le}
use lib.Dec.{eqb, ltb}
use borrow.Author.Tests.{lt-ltb, le-ltb, le-leb, lt-leb}
use Rattle.wire_read.proofs.Laws.{part-next, number-join}
use Rattle.wire_read.proofs.Tests.{by_test, never, if_then, if_else}
use Rattle.wire_read.specs.Wire.{number_at}
use Rattle.bench_words.specs.Hex.{digit_value, digit_of, decoded, Decoding}
use Rattle.bench_words.specs.Number.{is_decimal, spelled, decimal, four_bytes, eight_bytes}
use Rattle.std.specs.Prelude.{Option, Some, None}
use Rattle.bench_words.proofs.HexLaws.{value_told, none_told, whole-true, whole-false, filled-bytes}

spelled_grows : (n : ℕ) (s : List ℕ) → n ≤ spelled n s
unfolding spelled
spelled_grows n [] = omega arith
spelled_grows n (d ∷ s) = omega (arith, spelled_grows (n * 10 + digit_value d) s)

-- n is what the digits before i spell
pub record Counting (word : List ℕ) (i n : ℕ) : Type 0 where
  pub digits : is_decimal (drop i word) ≡ is_decimal word
  pub number : spelled n (drop i word) ≡ spelled 0 word

pub counting_start : (word : List ℕ) → Counting word 0 0
counting_start word = record { digits = refl; number = refl }

wrong_decimal : (word : List ℕ) (most : ℕ) → (is_decimal word ≡ true → most < spelled 0 word) → None ≡ decimal word most
unfolding decimal
wrong_decimal word most h =
    by_test (eqb (length word) 0 || ltb 1 (length word) && eqb (get_or word 0 0) 48)
    (λ t. rw t)
    (λ t.
    by_test (is_decimal word)
    (λ x. rw (t, x, lt-leb (spelled 0 word) most (h x)))
    (λ x. rw (t, x)))

module _ (word : List ℕ) (most i n digit : ℕ) (counting : Counting word i n) (more : i < length word) where
  no_decimal : 9 < digit_value (get_or word i 0) → None ≡ decimal word most
  unfolding is_decimal
  no_decimal h =
      let big = le-ltb (digit_value (get_or word i 0)) 10 h in
      let none : is_decimal (drop i word) ≡ false = rw (part-next word i more, big) in
      let digits = counting.digits in
      wrong_decimal word most (λ x. absurd (let z : ◌≡◌ {A = ℕ} 0 1 = cc in omega arith))

  -- a byte that is no digit at all
  pub decimal_none : (r : Option ℕ) → r ≡ None → None ≡ digit_of (get_or word i 0) → r ≡ decimal word most
  decimal_none r e h = let high = none_told (get_or word i 0) h in e ∙ no_decimal (omega arith)

  module _ (told : Some digit ≡ digit_of (get_or word i 0)) where
    is : digit ≡ digit_value (get_or word i 0)
    is = (value_told (get_or word i 0) digit told).0

    pub counting_on : digit ≤ 9 → Counting word (i + 1) (n * 10 + digit)
    unfolding is_decimal spelled
    counting_on h =
        let small = lt-ltb (digit_value (get_or word i 0)) 10 (omega (arith, is)) in
        let same : is_decimal (drop i word) ≡ is_decimal (drop (i + 1) word) = rw (part-next word i more, small) in
        let next : spelled n (drop i word) ≡ spelled (n * 10 + digit) (drop (i + 1) word) = rw (part-next word i more, is) in
        record { digits = sym same ∙ counting.digits; number = sym next ∙ counting.number }

    pub decimal_letter : 9 < digit → None ≡ decimal word most
    decimal_letter h = no_decimal (omega (arith, is))

    pub decimal_above : digit ≤ 9 → most < n * 10 + digit → None ≡ decimal word most
    decimal_above k h =
        let on = counting_on k in
        let grows = spelled_grows (n * 10 + digit) (drop (i + 1) word) in
        wrong_decimal word most (λ x. omega (arith, on.number))

module _ (word : List ℕ) (most first : ℕ) (is : first ≡ get_or word 0 0) where
  pub decimal_front : (eqb (length word) 0 || (ltb 1 (length word) && eqb first 48)) ≡ true → None ≡ decimal word most
  unfolding decimal
  decimal_front h = if_then _ _ _ (rw is at h)

  pub decimal-end : (eqb (length word) 0 || (ltb 1 (length word) && eqb first 48)) ≡ false → (i n : ℕ) → Counting word i n → length word ≤ i →
      n ≤ most → Some n ≡ decimal word most
  unfolding decimal is_decimal spelled
  decimal-end h i n counting e m =
      let none : drop i word ≡ [] = drop_of_length-le word e in
      let digits : true ≡ is_decimal word = rw none at counting.digits in
      let number : n ≡ spelled 0 word = rw none at counting.number in
      if_else _ _ _ (rw is at h) _ (rw (← digits, ← number, le-leb n most m))

-- ---- bytes in hex

module _ (word l m : List ℕ) (told : Option ℕ) (decoding : Decoding word 0 l told m) where
  not-filled : (n : ℕ) → length l ≡ n → (told ≡ Some n → ⊥) → decoded word 0 n ≡ Some n → ⊥
  not-filled n long h e = h (decoding.0 ∙ ap (decoded word 0) long ∙ e)

  is-filled : (n : ℕ) → length l ≡ n → told ≡ Some n → decoded word 0 n ≡ Some n
  is-filled n long h = sym (ap (decoded word 0) long) ∙ sym decoding.0 ∙ h

  module _ (long : length l ≡ 4) where
    pub four_wrong : (r : Option ℕ) → r ≡ None → told ≡ None → r ≡ four_bytes word
    unfolding four_bytes
    four_wrong r i h = i ∙ rw (whole-false word 4 (omega arith) (not-filled 4 long (λ e. never (cc))))

    pub four_other : (end : ℕ) → told ≡ Some end → (end ≡ 4 → ⊥) → None ≡ four_bytes word
    unfolding four_bytes
    four_other end h k = rw (whole-false word 4 (omega arith) (not-filled 4 long (λ e. k (cc))))

    pub four_is : (end x : ℕ) → told ≡ Some end → end ≡ 4 → x ≡ number_at 4 m 0 → Some x ≡ four_bytes word
    unfolding four_bytes
    four_is end x h k e =
        let to : told ≡ Some 4 = h ∙ ap Some k in
        let full = is-filled 4 long to in
        rw (whole-true word 4 (omega arith) full) (ap Some (e ∙ filled-bytes word 4 (omega arith) l m long full (decoding.1 4 to)))

  module _ (long : length l ≡ 8) where
    pub eight_wrong : (r : Option ℕ) → r ≡ None → told ≡ None → r ≡ eight_bytes word
    unfolding eight_bytes
    eight_wrong r i h = i ∙ rw (whole-false word 8 (omega arith) (not-filled 8 long (λ e. never (cc))))

    pub eight_other : (end : ℕ) → told ≡ Some end → (end ≡ 8 → ⊥) → None ≡ eight_bytes word
    unfolding eight_bytes
    eight_other end h k = rw (whole-false word 8 (omega arith) (not-filled 8 long (λ e. k (cc))))

    pub eight_is : (end x y : ℕ) → told ≡ Some end → end ≡ 8 → x ≡ number_at 4 m 0 → y ≡ number_at 4 m 4 → Some (x * 4294967296 + y) ≡ eight_bytes word
    unfolding eight_bytes
    eight_is end x y h k e f =
        let to : told ≡ Some 8 = h ∙ ap Some k in
        let full = is-filled 8 long to in
        let sum : x * 4294967296 + y ≡ number_at 8 m 0 = omega (arith, number-join 4 4 m 0) in
        rw (whole-true word 8 (omega arith) full) (ap Some (sum ∙ filled-bytes word 8 (omega arith) l m long full (decoding.1 8 to)))
