-- What is said behind something else is said as one; the digits of a number, and of bytes, as the code finds them.
use Prim.Native.Nat.{ℕ, zero, suc, ◌+◌, ◌/◌, ◌%◌, ◌≤◌, ◌<◌, min}
use mathlib.Core.Path.{◌≡◌, refl, sym, ap, subst, ◌∙◌}
use mathlib.Core.List.{List, [], ◌∷◌, ◌++◌}
use native.Mathlib.Omega.{arith}
use native.Mathlib.Numerals.{add-one}
use lib.ListN.{length, get_or, take, length-append}
use lib.Seq.{take-suc, take_all}
use lib.Dec.{eqb, ltb, leb}
use borrow.Author.Tests.{lt-ltb, le-ltb, leb-true, leb-false, ltb-true, ltb-false, eq-eqb, ne_eqb}
use Rattle.wire_read.proofs.Tests.{by_test, if_then, if_else}
use Rattle.wire_write.specs.Put.{paste}
use Rattle.wire_write.proofs.Laws.{length_paste, paste-append, paste_past}
use Rattle.sa_fields.specs.declared.TransformNumber.{TransformNumber}
use Rattle.policy_choice.specs.declared.Transforms.{Transforms}
use Rattle.policy_choice.specs.declared.Transforms.TheVariants.{One, Two}
use Rattle.std.specs.Prelude.{Result, Ok, Err}
use Rattle.sequence_record.specs.Verdict.{verdict_by}
use Rattle.sequence_record.specs.declared.LossLine.{LossLine}
use Rattle.bench_words.specs.Say.{Said, hex_digit_ascii, digits_text, decimal_text, number_text, hex_byte_text, hex_text, word_text, refused_text, verdict_text, loss_text, transforms_text}

module _ (l m n : List ℕ) (at r s : ℕ) (xs ys : List ℕ) where
  -- what would be put past the end is left out, wherever that is
  put_on : m ≡ paste l at xs → r ≡ min (at + length xs) (length m) → n ≡ paste m r ys → n ≡ paste l at (xs ++ ys)
  put_on p e q =
      let place : paste m r ys ≡ paste m (at + length xs) ys =
      by_test (leb (at + length xs) (length m))
      (λ h. let fits = leb-true (at + length xs) (length m) h in ap (λ (k : ℕ). paste m k ys) (omega arith))
      (λ h.
      let past = leb-false (at + length xs) (length m) h in
      paste_past m r ys (omega arith) ∙ sym (paste_past m (at + length xs) ys (omega arith)))
      in q ∙ place ∙ ap (λ (b : List ℕ). paste b (at + length xs) ys) p ∙ paste-append l at xs ys

  pub said-on : Said l at xs r m → Said m r ys s n → Said l at (xs ++ ys) s n
  said-on (p, e) (q, f) =
      let long : length n ≡ length m = ap length q ∙ length_paste m r ys in
      (put_on p e q, omega (arith, length-append xs ys))

  -- the same with the whole text as a definition has it
  pub said-both : (text : List ℕ) → Said l at xs r m → Said m r ys s n → xs ++ ys ≡ text → Said l at text s n
  said-both text p q e = subst (λ (t : List ℕ). Said l at t s n) e (said-on p q)

-- one text said is another that is the same
pub said-text : (l m : List ℕ) (at r : ℕ) (xs text : List ℕ) → Said l at xs r m → xs ≡ text → Said l at text r m
said-text l m at r xs text p e = subst (λ (t : List ℕ). Said l at t r m) e p

-- ---- numbers

-- however many digits may come, if they are enough
enough : (most more n : ℕ) → n < most → n < more → digits_text most n ≡ digits_text more n
unfolding digits_text
enough zero more n h g = absurd (omega arith)
enough (suc most) zero n h g = absurd (omega arith)
enough (suc most) (suc more) n h g =
    by_test (ltb n 10)
    (λ l. rw l)
    (λ l.
    let ten = ltb-false n 10 l in
    rw l (ap (λ (t : List ℕ). t ++ (hex_digit_ascii (n % 10) ∷ [])) (enough most more (n / 10) (omega arith) (omega arith))))

-- a number of one digit, and one of more
pub one_digit : (n : ℕ) → n < 10 → decimal_text n ≡ (48 + n) ∷ []
unfolding digits_text
one_digit n h = rw (add-one n, lt-ltb n 10 h)

pub more_digits : (n : ℕ) → 10 ≤ n → decimal_text n ≡ decimal_text (n / 10) ++ ((48 + n % 10) ∷ [])
unfolding digits_text
more_digits n h =
    let low = lt-ltb (n % 10) 10 (omega arith) in
    rw (add-one n, le-ltb n 10 h, low)
    (ap (λ (t : List ℕ). t ++ ((48 + n % 10) ∷ [])) (enough n (n / 10 + 1) (n / 10) (omega arith) (omega arith)))

-- ---- bytes in hex

-- the digit of a value, by its two cases
pub glyph_is : (value r : ℕ) → (value < 10 → r ≡ 48 + value) → (10 ≤ value → r ≡ 87 + value) → r ≡ hex_digit_ascii value
glyph_is value r low high =
    by_test (ltb value 10)
    (λ h. rw h (low (ltb-true value 10 h)))
    (λ h. rw h (high (ltb-false value 10 h)))

hex-append : (s t : List ℕ) → hex_text (s ++ t) ≡ hex_text s ++ hex_text t
unfolding hex_text
hex-append [] t = refl
hex-append (b ∷ s) t = ap (λ (x : List ℕ). hex_digit_ascii (b / 16) ∷ hex_digit_ascii (b % 16) ∷ x) (hex-append s t)

-- one byte more
hex-next : (s : List ℕ) (i b : ℕ) → i < length s → b ≡ get_or s i 0 → hex_text (take i s) ++ hex_byte_text b ≡ hex_text (take (i + 1) s)
unfolding hex_text
hex-next s i b h e = rw (add-one, take-suc s i 0 h, hex-append (take i s) (get_or s i 0 ∷ []), e)

pub hex-start : (l : List ℕ) (r : ℕ) → r ≤ length l → Said l r (hex_text []) r l
unfolding hex_text paste
hex-start l r h = (refl, omega arith)

pub hex-byte : (l m : List ℕ) (at r b high low : ℕ) → (b / 16 < 10 → high ≡ 48 + b / 16) → (10 ≤ b / 16 → high ≡ 87 + b / 16) → (b % 16 < 10 →
    low ≡ 48 + b % 16) → (10 ≤ b % 16 → low ≡ 87 + b % 16) → Said l at (high ∷ low ∷ []) r m → Said l at (hex_byte_text b) r m
hex-byte l m at r b high low hd hl ld ll p =
    said-text l m at r (high ∷ low ∷ []) (hex_byte_text b) p
    (ap (λ (x : ℕ). x ∷ low ∷ []) (glyph_is (b / 16) high hd hl) ∙ ap (λ (x : ℕ). hex_digit_ascii (b / 16) ∷ x ∷ []) (glyph_is (b % 16) low ld ll))

module _ (l m n : List ℕ) (at r t : ℕ) (s : List ℕ) (i : ℕ) where
  pub hex-on : (b : ℕ) → Said l at (hex_text (take i s)) r m → i < length s → b ≡ get_or s i 0 → Said m r (hex_byte_text b) t n →
      Said l at (hex_text (take (i + 1) s)) t n
  hex-on b p h e q = said-both l m n at r t (hex_text (take i s)) (hex_byte_text b) _ p q (hex-next s i b h e)

  pub hex-end : Said l at [] r m → Said m r (hex_text (take i s)) t n → length s ≤ i → Said l at (hex_text s) t n
  hex-end p q h = said-both l m n at r t [] (hex_text (take i s)) _ p q (ap hex_text (take_all i s h))

module _ (l m : List ℕ) (at r : ℕ) (bytes : List ℕ) where
  pub word_none : length bytes ≡ 0 → Said l at (45 ∷ []) r m → Said l at (word_text bytes) r m
  unfolding word_text
  word_none h p = said-text l m at r (45 ∷ []) (word_text bytes) p (if_then (eqb (length bytes) 0) _ _ (eq-eqb (length bytes) 0 h))

  pub word_some : (length bytes ≡ 0 → ⊥) → Said l at (hex_text bytes) r m → Said l at (word_text bytes) r m
  unfolding word_text
  word_some h p = said-text l m at r (hex_text bytes) (word_text bytes) p (if_else (eqb (length bytes) 0) _ _ (ne_eqb (length bytes) 0 h) _ refl)

-- ---- by cases

module _ (l m : List ℕ) (at r : ℕ) where
  pub refused-said : {R : Type 0} (numbered : R → ℕ) (told : Result ℕ R) (refused : R) → told ≡ Err refused → (n : ℕ) → n ≡ numbered refused →
      Said l at (refused_text n) r m → Said l at (verdict_text (verdict_by numbered told)) r m
  unfolding verdict_text
  refused-said numbered told refused is n e p = rw (is, ← e) p

  pub one-said : (ts : Transforms) (t : TransformNumber) → ts ≡ One t → Said l at (number_text t.0) r m → Said l at (transforms_text ts) r m
  unfolding transforms_text
  one-said ts t e p = rw e p

pub accepted-said : {R : Type 0} (numbered : R → ℕ) (l m n : List ℕ) (at r s : ℕ) (told : Result ℕ R) (rise : ℕ) → told ≡ Ok rise →
    Said l at (97 ∷ 99 ∷ 99 ∷ 101 ∷ 112 ∷ 116 ∷ 101 ∷ 100 ∷ []) r m → Said m r (number_text rise) s n → Said l at (verdict_text (verdict_by numbered told)) s n
unfolding verdict_text
accepted-said numbered l m n at r s told rise e p q = rw e (said-on l m n at r s _ (number_text rise) p q)

pub two_said : (l m n : List ℕ) (at r s : ℕ) (ts : Transforms) (t u : TransformNumber) → ts ≡ Two t u → Said l at (number_text t.0) r m →
    Said m r (number_text u.0) s n → Said l at (transforms_text ts) s n
unfolding transforms_text
two_said l m n at r s ts t u e p q = rw e (said-on l m n at r s (number_text t.0) (number_text u.0) p q)

module _ (a b c d e : List ℕ) (at r s t u : ℕ) (loss : LossLine) where
  pub loss-said : Said a at (108 ∷ 111 ∷ 115 ∷ 115 ∷ []) r b → Said b r (number_text loss.highest) s c → Said c s (number_text loss.span) t d →
      Said d t (number_text loss.count) u e → Said a at (loss_text loss) u e
  loss-said w x y z =
      let two = said-on a b c at r s (108 ∷ 111 ∷ 115 ∷ 115 ∷ []) (number_text loss.highest) w x in
      let three = said-on a c d at s t ((108 ∷ 111 ∷ 115 ∷ 115 ∷ []) ++ number_text loss.highest) (number_text loss.span) two y in
      said-on a d e at t u ((108 ∷ 111 ∷ 115 ∷ 115 ∷ []) ++ number_text loss.highest ++ number_text loss.span) (number_text loss.count) three z
