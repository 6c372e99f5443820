-- Words in hex, as the code's places in them find their digits: what is put so far, and what each way out tells.
use Prim.Native.Nat.{ℕ, ◌+◌, ◌-◌, ◌*◌, ◌≤◌, ◌<◌, min}
use mathlib.Core.Path.{◌≡◌, refl, sym, ap, ◌∙◌}
use mathlib.Core.Logic.{◌⊎◌, inl, inr, ⊎_elim}
use mathlib.Core.List.{List, [], ◌∷◌, ◌++◌}
use mathlib.Core.Bool.{Bool, true, false, ◌&&◌, and-false}
use native.Mathlib.Omega.{arith}
use native.Mathlib.Nat.{zero-add}
use lib.ListN.{length, get_or, set, length-set}
use lib.Dec.{eqb, ltb}
use borrow.Author.Tests.{lt-ltb, le-ltb, le-leb, lt-leb, ltb-true, ltb-false, eq-eqb, ne_eqb, eqb-true}
use Rattle.wire_read.specs.Wire.{equal, number_at}
use Rattle.wire_read.proofs.Laws.{equal-true, number_agree}
use Rattle.wire_read.proofs.Tests.{by_test, both, never, if_then, if_else}
use Rattle.wire_write.specs.Put.{paste}
use Rattle.wire_write.proofs.Laws.{length_paste, paste-append, get_or-paste}
use Rattle.bench_words.specs.Hex.{digit_value, digit_of, is_hex, hex_bytes, decoded, Decoding, second_decoded, first_decoded, parted, Parting}
use Rattle.std.specs.Prelude.{Option, Some, None}

-- ---- digits

module _ (d : ℕ) where
  -- a digit of each kind
  pub value-decimal : (r : ℕ) → 48 ≤ d → d ≤ 57 → r ≡ d - 48 → r ≡ digit_value d
  unfolding digit_value
  value-decimal r a b e = rw (le-leb 48 d a, le-leb d 57 b) e

  pub value_lower : (r : ℕ) → 97 ≤ d → d ≤ 102 → r ≡ d - 87 → r ≡ digit_value d
  unfolding digit_value
  value_lower r a b e = rw (lt-leb d 57 (omega arith), and-false, le-leb 97 d a, le-leb d 102 b) e

  pub value_upper : (r : ℕ) → 65 ≤ d → d ≤ 70 → r ≡ d - 55 → r ≡ digit_value d
  unfolding digit_value
  value_upper r a b e = rw (lt-leb d 57 (omega arith), and-false, lt-leb 97 d (omega arith), le-leb 65 d a, le-leb d 70 b) e

  -- a byte below all digits, between two kinds of them, or above all
  pub value_below : d < 48 → 16 ≡ digit_value d
  unfolding digit_value
  value_below h = rw (lt-leb 48 d h, lt-leb 97 d (omega arith), lt-leb 65 d (omega arith))

  pub value-between : 57 < d → d < 65 → 16 ≡ digit_value d
  unfolding digit_value
  value-between a b = rw (lt-leb d 57 a, and-false, lt-leb 97 d (omega arith), lt-leb 65 d b)

  pub value_middle : 70 < d → d < 97 → 16 ≡ digit_value d
  unfolding digit_value
  value_middle a b = rw (lt-leb d 57 (omega arith), and-false, lt-leb 97 d b, lt-leb d 70 a, and-false)

  pub value_above : 102 < d → 16 ≡ digit_value d
  unfolding digit_value
  value_above a = rw (lt-leb d 57 (omega arith), and-false, lt-leb d 102 a, and-false, lt-leb d 70 (omega arith), and-false)

  -- what the code tells of a digit is its value, and of any other byte nothing
  pub told_value : (r : ℕ) → r ≡ digit_value d → r < 16 → Some r ≡ digit_of d
  told_value r e h = rw (← e, lt-ltb r 16 h)

  pub told_none : 16 ≡ digit_value d → None ≡ digit_of d
  told_none e = rw (← e)

  pub value_told : (r : ℕ) → Some r ≡ digit_of d → (r ≡ digit_value d) × (r < 16)
  value_told r e =
      by_test (ltb (digit_value d) 16)
      (λ t. let same : Some r ≡ Some (digit_value d) = rw t at e in let is : r ≡ digit_value d = cc in (is, omega (arith, ltb-true (digit_value d) 16 t)))
      (λ t. never (let same : Some r ≡ None = rw t at e in cc))

  pub none_told : None ≡ digit_of d → 16 ≤ digit_value d
  none_told e =
      by_test (ltb (digit_value d) 16)
      (λ t. never (let same : None ≡ Some (digit_value d) = rw t at e in cc))
      (λ t. ltb-false (digit_value d) 16 t)

-- ---- the loop

-- the bytes of the digits before what is left are put, and to is the place behind them
pub record Going (word : List ℕ) (at : ℕ) (l rest : List ℕ) (to : ℕ) (m : List ℕ) : Type 0 where
  pub hexes : is_hex rest ≡ is_hex word
  pub size : to + length (hex_bytes rest) ≡ at + length (hex_bytes word)
  pub put : paste m to (hex_bytes rest) ≡ paste l at (hex_bytes word)
  pub fits : length rest < length word → to ≤ length m

pub going_start : (word : List ℕ) (at : ℕ) (l : List ℕ) → Going word at l word at l
going_start word at l = record { hexes = refl; size = refl; put = refl; fits = λ h. absurd (omega arith) }

nothing_left : (s : List ℕ) → length s ≡ 0 → s ≡ []
nothing_left [] h = refl
nothing_left (a ∷ s) h = absurd (omega arith)

-- a digit alone is no byte, and a pair is its two digits
lone_digit : (s : List ℕ) → length s ≡ 1 → is_hex s ≡ false
unfolding is_hex
lone_digit [] h = absurd (omega arith)
lone_digit (a ∷ []) h = refl
lone_digit (a ∷ b ∷ s) h = absurd (omega arith)

two_digits : (pair : List ℕ) → length pair ≡ 2 → pair ≡ get_or pair 0 0 ∷ get_or pair 1 0 ∷ []
two_digits [] h = absurd (omega arith)
two_digits (a ∷ []) h = absurd (omega arith)
two_digits (a ∷ b ∷ []) h = refl
two_digits (a ∷ b ∷ c ∷ s) h = absurd (omega arith)

module _ (word : List ℕ) (at : ℕ) (l rest : List ℕ) (to : ℕ) (m : List ℕ) (going : Going word at l rest to m) where
  module _ (pair others : List ℕ) (apart : rest ≡ pair ++ others) (both_digits : length pair ≡ 2) where
    digits_apart : rest ≡ get_or pair 0 0 ∷ get_or pair 1 0 ∷ others
    digits_apart = apart ∙ ap (λ (s : List ℕ). s ++ others) (two_digits pair both_digits)

    no_byte : (16 ≤ digit_value (get_or pair 0 0)) ⊎ (16 ≤ digit_value (get_or pair 1 0)) → is_hex word ≡ false
    unfolding is_hex
    no_byte h =
        sym going.hexes ∙ rw digits_apart
        (⊎_elim
        (λ a. rw (le-ltb (digit_value (get_or pair 0 0)) 16 a))
        (λ b. rw (le-ltb (digit_value (get_or pair 1 0)) 16 b, and-false))
        h)

    pub going_on : (high low : ℕ) → Some high ≡ digit_of (get_or pair 0 0) → Some low ≡ digit_of (get_or pair 1 0) → to < length m →
        Going word at l others (to + 1) (set m to (high * 16 + low))
    unfolding is_hex hex_bytes paste
    going_on high low x y t =
        let (first, h) = value_told (get_or pair 0 0) high x in
        let (last, k) = value_told (get_or pair 1 0) low y in
        let e = lt-ltb (digit_value (get_or pair 0 0)) 16 (omega arith) in
        let f = lt-ltb (digit_value (get_or pair 1 0)) 16 (omega arith) in
        let same : is_hex rest ≡ is_hex others = rw (digits_apart, e, f) in
        let bytes : hex_bytes rest ≡ (high * 16 + low) ∷ hex_bytes others = rw (digits_apart, first, last) in
        let one = ap length bytes in
        record {
          hexes = sym same ∙ going.hexes;
          size = omega (arith, going.size);
          put = sym (ap (paste m to) bytes) ∙ going.put;
          fits = λ s. simp length-set (omega arith);
        }

    going_full : length m ≤ to → is_hex word ≡ true → length m < at + length (hex_bytes word)
    unfolding hex_bytes
    going_full h e =
        let some : 1 ≤ length (hex_bytes rest) = rw digits_apart (omega arith) in
        omega (arith, going.size)

  pub going_end : length rest ≡ 0 → 0 < length word →
      (is_hex word ≡ true) × (to ≡ at + length (hex_bytes word)) × (m ≡ paste l at (hex_bytes word)) × (to ≤ length m)
  unfolding is_hex hex_bytes paste
  going_end h k =
      let none : rest ≡ [] = nothing_left rest h in
      let size = rw none at going.size in
      (sym (rw none at going.hexes), omega arith, rw none at going.put, going.fits (omega arith))

-- ---- the ways out

module _ (word : List ℕ) (at : ℕ) (l m : List ℕ) (dash : Bool) (is : dash ≡ equal word (45 ∷ [])) where
  pub decode_dash : dash ≡ true → Decoding word at l (Some at) l
  unfolding decoded hex_bytes paste
  decode_dash h =
      let e = equal-true word (45 ∷ []) (sym is ∙ h) in
      (if_then (equal word (45 ∷ [])) _ _ (sym is ∙ h), λ end s. sym (ap (λ (w : List ℕ). paste l at (hex_bytes w)) e))

  module _ (other : dash ≡ false) where
    wrong_decoding : (is_hex word ≡ true → (length word ≡ 0 → ⊥) → length l < at + length (hex_bytes word)) → Decoding word at l None m
    unfolding decoded
    wrong_decoding h =
        let told : None ≡ decoded word at (length l) =
        if_else (equal word (45 ∷ [])) _ _ (sym is ∙ other) _
        (by_test (eqb (length word) 0)
        (λ t. rw t)
        (λ t.
        by_test (is_hex word)
        (λ x. rw (t, x, lt-ltb (length l) (at + length (hex_bytes word)) (h x (λ z. never (let w = eq-eqb (length word) 0 z in cc)))))
        (λ x. rw (t, x))))
        in (told, λ end s. never (cc))

    pub decode_empty : length word ≡ 0 → Decoding word at l None m
    decode_empty e = wrong_decoding (λ x z. absurd (z e))

    module _ (rest : List ℕ) (to : ℕ) (going : Going word at l rest to m) (pair others : List ℕ) (apart : rest ≡ pair ++ others) where
      pub decode_lone : (size : ℕ) → size ≡ 2 → length pair ≡ min size (length rest) → 0 < length rest → length pair < 2 → Decoding word at l None m
      decode_lone size two e some h =
          wrong_decoding (λ x z. never (let n = lone_digit rest (omega arith) in let g = going.hexes in cc))

      module _ (low_bound : 2 ≤ length pair) (high_bound : length pair < 3) where
        pub decode_full : length m ≤ to → length m ≡ length l → Decoding word at l None m
        decode_full h e = wrong_decoding (λ x z. let f = going_full word at l rest to m going pair others apart (omega arith) h x in omega arith)

        pub decode_letter : (r : Option ℕ) → r ≡ None → (None ≡ digit_of (get_or pair 0 0)) ⊎ (None ≡ digit_of (get_or pair 1 0)) → Decoding word at l r m
        decode_letter r e h =
            let letter : (16 ≤ digit_value (get_or pair 0 0)) ⊎ (16 ≤ digit_value (get_or pair 1 0)) =
            ⊎_elim (λ a. inl (none_told (get_or pair 0 0) a)) (λ b. inr (none_told (get_or pair 1 0) b)) h in
            rw e (wrong_decoding (λ x z. never (let n = no_byte word at l rest to m going pair others apart (omega arith) letter in cc)))

    pub decode_end : (rest : List ℕ) (to : ℕ) → Going word at l rest to m → length rest ≡ 0 → (length word ≡ 0 → ⊥) → length m ≡ length l →
        Decoding word at l (Some to) m
    unfolding decoded
    decode_end rest to going h z e =
        let (x, size, put, fits) = going_end word at l rest to m going h (omega arith) in
        let told : Some to ≡ decoded word at (length l) =
        if_else (equal word (45 ∷ [])) _ _ (sym is ∙ other) _
        (rw (ne_eqb (length word) 0 z, x, le-ltb (length l) (at + length (hex_bytes word)) (omega arith)) (ap Some size))
        in (told, λ end s. let same : to ≡ end = cc in put)

-- ---- two words

-- where a word's bytes fit, its place behind them is as far on as they are long
decoded-size : (word : List ℕ) (at room end : ℕ) → Some end ≡ decoded word at room → end ≡ at + length (hex_bytes word)
unfolding decoded hex_bytes
decoded-size word at room end e =
    by_test (equal word (45 ∷ []))
    (λ t.
    let none : hex_bytes word ≡ [] = ap hex_bytes (equal-true word (45 ∷ []) t) in
    let same : Some end ≡ Some at = rw t at e in
    let is : end ≡ at = cc in
    rw none (omega arith))
    (λ t.
    by_test (eqb (length word) 0)
    (λ u. never (let same : Some end ≡ None = rw (t, u) at e in cc))
    (λ u.
    by_test (is_hex word)
    (λ x.
    by_test (ltb room (at + length (hex_bytes word)))
    (λ y. never (let same : Some end ≡ None = rw (t, u, x, y) at e in cc))
    (λ y. let same : Some end ≡ Some (at + length (hex_bytes word)) = rw (t, u, x, y) at e in cc))
    (λ x. never (let same : Some end ≡ None = rw (t, u, x) at e in cc))))

module _ (first second l m n : List ℕ) (told : Option ℕ) (one : Decoding first 0 l told m) where
  pub part_none : (r : Option (ℕ × ℕ)) → r ≡ None → told ≡ None → Parting first second l r m
  unfolding first_decoded
  part_none r i e = rw i (sym (ap (λ (d : Option ℕ). first_decoded d second (length l)) (sym one.0 ∙ e)), λ middle end s. never (cc))

  module _ (middle : ℕ) (is : told ≡ Some middle) (next : Option ℕ) (two : Decoding second middle m next n) where
    same-room : length m ≡ length l
    same-room = ap length (one.1 middle is) ∙ length_paste l 0 (hex_bytes first)

    told-two : second_decoded middle next ≡ parted first second (length l)
    unfolding first_decoded
    told-two =
        sym (ap (λ (d : Option ℕ). first_decoded d second (length l)) (sym one.0 ∙ is)
        ∙ ap (λ (r : ℕ). second_decoded middle (decoded second middle r)) (sym same-room) ∙ ap (second_decoded middle) (sym two.0))

    pub part_wrong : (r : Option (ℕ × ℕ)) → r ≡ None → next ≡ None → Parting first second l r n
    unfolding second_decoded
    part_wrong r i e = rw i (sym (ap (second_decoded middle) e) ∙ told-two, λ middle end s. never (cc))

    pub part-both : (end : ℕ) → next ≡ Some end → Parting first second l (Some (middle, end)) n
    unfolding second_decoded
    part-both end e =
        let place : middle ≡ 0 + length (hex_bytes first) = decoded-size first 0 (length l) middle (sym is ∙ one.0) in (
          sym (ap (second_decoded middle) e) ∙ told-two,
          λ x y s.
              two.1 end e ∙ ap (λ (b : List ℕ). paste b middle (hex_bytes second)) (one.1 middle is)
              ∙ ap (λ (k : ℕ). paste (paste l 0 (hex_bytes first)) k (hex_bytes second)) place ∙ paste-append l 0 (hex_bytes first) (hex_bytes second),
        )

-- ---- a whole number of bytes

pub hex_length : (word : List ℕ) → is_hex word ≡ true → length word ≡ 2 * length (hex_bytes word)
unfolding is_hex hex_bytes
hex_length [] e = refl
hex_length (a ∷ []) e = never (cc)
hex_length (a ∷ b ∷ s) e = omega (arith, hex_length s (both (ltb (digit_value a) 16 && ltb (digit_value b) 16) (is_hex s) e).1)

-- a word that fills a buffer of n bytes is 2 n digits, and only such a word fills it
module _ (word : List ℕ) (n : ℕ) (some : 0 < n) where
  pub fills : length word ≡ 2 * n → is_hex word ≡ true → decoded word 0 n ≡ Some n
  unfolding decoded
  fills long x =
      let size = hex_length word x in
      let dash : equal word (45 ∷ []) ≡ false =
      by_test (equal word (45 ∷ [])) (λ t. let one = ap length (equal-true word (45 ∷ []) t) in absurd (omega arith)) (λ t. t) in
      let same : 0 + length (hex_bytes word) ≡ n = omega arith in
      rw (dash, ne_eqb (length word) 0 (λ z. omega arith), x, le-ltb n (0 + length (hex_bytes word)) (omega arith), same)

  pub filled : decoded word 0 n ≡ Some n → (length word ≡ 2 * n) × (is_hex word ≡ true)
  unfolding decoded
  filled e =
      let size = decoded-size word 0 n n (sym e) in
      let hex : is_hex word ≡ true =
      by_test (equal word (45 ∷ []))
      (λ t. let same : Some 0 ≡ Some n = rw t at e in let is : 0 ≡ n = cc in absurd (omega arith))
      (λ t.
      by_test (eqb (length word) 0)
      (λ u. never (let same : None ≡ Some n = rw (t, u) at e in cc))
      (λ u. by_test (is_hex word) (λ x. x) (λ x. never (let same : None ≡ Some n = rw (t, u, x) at e in cc))))
      in (omega (arith, hex_length word hex), hex)

  pub filled-bytes : (l m : List ℕ) → length l ≡ n → decoded word 0 n ≡ Some n → m ≡ paste l 0 (hex_bytes word) → number_at n m 0 ≡ number_at n (hex_bytes word) 0
  filled-bytes l m long e p =
      let size = decoded-size word 0 n n (sym e) in
      ap (λ (b : List ℕ). number_at n b 0) p
      ∙ number_agree n (paste l 0 (hex_bytes word)) (hex_bytes word) 0 0
      (λ k h. get_or-paste l 0 (hex_bytes word) k (omega arith) (omega arith) ∙ ap (λ (j : ℕ). get_or (hex_bytes word) j 0) (sym (zero-add k)))

  pub whole-true : decoded word 0 n ≡ Some n → (eqb (length word) (2 * n) && is_hex word) ≡ true
  whole-true e = let (long, x) = filled e in rw (eq-eqb (length word) (2 * n) long, x)

  pub whole-false : (decoded word 0 n ≡ Some n → ⊥) → (eqb (length word) (2 * n) && is_hex word) ≡ false
  whole-false h =
      by_test (eqb (length word) (2 * n) && is_hex word)
      (λ t. let (long, x) = both (eqb (length word) (2 * n)) (is_hex word) t in absurd (h (fills (eqb-true (length word) (2 * n) long) x)))
      (λ t. t)
