-- The words of a line, as the code's places in it find them.
use Prim.Native.Nat.{ℕ, zero, suc, ◌+◌, ◌-◌, ◌≤◌, ◌<◌, min}
use mathlib.Core.Path.{◌≡◌, refl, sym, ap, ◌∙◌}
use mathlib.Core.List.{List, [], ◌∷◌}
use mathlib.Core.Bool.{true, false, not}
use native.Mathlib.Omega.{arith}
use lib.ListN.{length, get_or, take, drop, length-drop, drop_of_length-le}
use lib.Seq.{get_or-drop, drop-drop, drop-nil}
use lib.Dec.{eqb, leb, ltb}
use borrow.Author.Tests.{eq-eqb, ne_eqb, leb-true, leb-false, ltb-false, eqb-true}
use Rattle.std.specs.Prelude.{Some, None, ◌==◌, cond}
use Rattle.std.specs.List.{count_by, position, position_or_len}
use Rattle.std.proofs.lemmas.List.Quantifiers.{position-Some}
use Rattle.std.proofs.lemmas.List.Sums.{prefix_len_passes}
use Rattle.std.proofs.lemmas.List.Recursion.{is_count_by}
use Rattle.wire_read.proofs.Tests.{by_test, never}
use Rattle.wire_read.proofs.Laws.{part-next}
use Rattle.bench_words.specs.Words.{word_length, word_count, word_of}

-- ---- the first such byte

module _ (s rest : List ℕ) (from b : ℕ) (behind : rest ≡ drop from s) where
  -- a place in what is left is one further on in the whole
  place_on : (k : ℕ) → from ≤ k → get_or rest (k - from) 0 ≡ get_or s k 0
  place_on k h =
      let there : from + (k - from) ≡ k = omega arith in
      ap (λ (t : List ℕ). get_or t (k - from) 0) behind ∙ get_or-drop from s (k - from) 0 ∙ ap (λ (j : ℕ). get_or s j 0) there

  left : length rest ≡ length s - from
  left = ap length behind ∙ length-drop from s

  module _ (n : ℕ) (is : Some n ≡ position (λ x. x == b) rest) where
    first : (n < length rest) × ((get_or rest n 0 == b) ≡ true) × ((k : ℕ) → k < n → (get_or rest k 0 == b) ≡ false)
    first = position-Some (λ x. x == b) rest n 0 (sym is)

    pub found_within : from + n < length s
    found_within = omega (arith, first.0, left)

    pub found_there : get_or s (from + n) 0 ≡ b
    found_there =
        let there : from + n - from ≡ n = omega arith in
        sym (place_on (from + n) (omega arith)) ∙ ap (λ (j : ℕ). get_or rest j 0) there ∙ eqb-true (get_or rest n 0) b first.1

    pub none_before : (k : ℕ) → k < from + n → from ≤ k → get_or s k 0 ≡ b → ⊥
    none_before k h l e =
        let other = first.2 (k - from) (omega arith) in
        let same = eq-eqb (get_or rest (k - from) 0) b (place_on k l ∙ e) in
        never (cc)

  pub none_at_all : None ≡ position (λ x. x == b) rest → (k : ℕ) → k < length s → from ≤ k → get_or s k 0 ≡ b → ⊥
  none_at_all is k h l e =
      let at = k - from in
      let same = eq-eqb (get_or rest (k - from) 0) b (place_on k l ∙ e) in
      by_test (ltb (position_or_len (λ x. x == b) rest) (length rest))
      (λ t. never (let some : None ≡ Some (position_or_len (λ x. x == b) rest) = rw t at is in cc))
      (λ t.
      let all = ltb-false (position_or_len (λ x. x == b) rest) (length rest) t in
      let other : not (get_or rest (k - from) 0 == b) ≡ true = prefix_len_passes (λ x. not (x == b)) rest (k - from) 0 (omega (arith, left)) in
      never (let wrong : not true ≡ true = rw same at other in cc))

-- ---- how many

some_word : (s : List ℕ) → 1 ≤ word_count s
unfolding word_count
some_word [] = omega arith
some_word (b ∷ s) = by_test (eqb b 32) (λ t. rw t (omega arith)) (λ t. rw t (some_word s))

-- a space is one word more
word_step : (b : ℕ) (s : List ℕ) → word_count (b ∷ s) - 1 ≡ cond (b == 32) (1 + (word_count s - 1)) (word_count s - 1)
unfolding word_count
word_step b s = by_test (eqb b 32) (λ t. rw t (omega (arith, some_word s))) (λ t. rw t)

pub words_counted : (line : List ℕ) (n : ℕ) → n ≡ count_by (λ b. b == 32) line → n + 1 ≡ word_count line
unfolding word_count
words_counted line n e =
    let spaces = is_count_by (λ s. word_count s - 1) (λ b. b == 32) refl word_step line in
    omega (arith, some_word line)

-- words are counted from a place on: a space is one more
module _ (line : List ℕ) (i n : ℕ) (so_far : n + word_count (drop i line) ≡ word_count line + 1) (more : i < length line) where
  pub count_space : (m : ℕ) → m ≡ n + 1 → get_or line i 0 ≡ 32 → m + word_count (drop (i + 1) line) ≡ word_count line + 1
  unfolding word_count
  count_space m j h =
      let e : word_count (drop i line) ≡ 1 + word_count (drop (i + 1) line) = rw (part-next line i more, eq-eqb (get_or line i 0) 32 h) in
      omega arith

  pub count-other : (m : ℕ) → m ≡ n → (get_or line i 0 ≡ 32 → ⊥) → m + word_count (drop (i + 1) line) ≡ word_count line + 1
  unfolding word_count
  count-other m j h =
      let e : word_count (drop i line) ≡ word_count (drop (i + 1) line) = rw (part-next line i more, ne_eqb (get_or line i 0) 32 h) in
      omega arith

-- ---- which

-- what find ensures of its answer decides it
first_space : (s : List ℕ) (r : ℕ) → r ≤ length s → ((k : ℕ) → k < r → get_or s k 0 ≡ 32 → ⊥) → (r < length s → get_or s r 0 ≡ 32) → r ≡ word_length s
unfolding word_length
first_space [] r w b f = omega arith
first_space (x ∷ s) zero w b f = rw (eq-eqb x 32 (f (omega arith)))
first_space (x ∷ s) (suc r) w b f =
    rw (ne_eqb x 32 (b 0 (omega arith)))
    (omega (arith, first_space s r (omega arith) (λ k h. b (suc k) (omega arith)) (λ h. f (omega arith))))

pub found_first : (s : List ℕ) (r : ℕ) → r ≤ length s → ((k : ℕ) → k < r → 0 ≤ k → get_or s k 0 ≡ 32 → ⊥) → (r < length s → get_or s r 0 ≡ 32) →
    take r s ≡ word_of s 0
unfolding word_of
found_first s r w b f = ap (λ (n : ℕ). take n s) (first_space s r w (λ k h. b k h (omega arith)) f)

module _ (line : List ℕ) (k passed at r : ℕ) where
  found-next : r ≤ length line → min at (length line) ≤ r → ((j : ℕ) → j < r → at ≤ j → get_or line j 0 ≡ 32 → ⊥) → (r < length line →
      get_or line r 0 ≡ 32) → at ≤ length line → r ≡ at + word_length (drop at line)
  found-next w g b f h =
      let there : at + (r - at) ≡ r = omega arith in
      let first =
      first_space (drop at line) (r - at) (omega (arith, length-drop at line))
      (λ j l e. b (at + j) (omega arith) (omega arith) (sym (get_or-drop at line j 0) ∙ e))
      (λ l. get_or-drop at line (r - at) 0 ∙ ap (λ (j : ℕ). get_or line j 0) there ∙ f (omega (arith, length-drop at line)))
      in omega arith

  pub nth_on : at ≤ length line + 1 → passed < k → word_of (drop at line) (k - passed) ≡ word_of line k → r ≤ length line → min at (length line) ≤ r →
      ((j : ℕ) → j < r → at ≤ j → get_or line j 0 ≡ 32 → ⊥) → (r < length line → get_or line r 0 ≡ 32) →
      word_of (drop (r + 1) line) (k - (passed + 1)) ≡ word_of line k
  unfolding word_of
  nth_on h l e w g b f =
      let fewer : k - passed ≡ suc (k - (passed + 1)) = omega arith in
      let next : drop (word_length (drop at line) + 1) (drop at line) ≡ drop (r + 1) line =
      by_test (leb at (length line))
      (λ t.
      let there = found-next w g b f (leb-true at (length line) t) in
      let sum : at + (word_length (drop at line) + 1) ≡ r + 1 = omega arith in
      drop-drop (word_length (drop at line) + 1) at line ∙ ap (λ (n : ℕ). drop n line) sum)
      (λ t.
      let far = leb-false at (length line) t in
      let behind : length line ≤ at = omega arith in
      let none : drop at line ≡ [] = drop_of_length-le line behind in
      let past : length line ≤ r + 1 = omega arith in
      ap (drop (word_length (drop at line) + 1)) none ∙ drop-nil (word_length (drop at line) + 1) ∙ sym (drop_of_length-le line past))
      in sym (ap (word_of (drop at line)) fewer ∙ ap (λ (s : List ℕ). word_of s (k - (passed + 1))) next) ∙ e

pub nth_end : (line : List ℕ) (k passed at r : ℕ) (rest word : List ℕ) → passed ≤ k → k ≤ passed → word_of (drop at line) (k - passed) ≡ word_of line k →
    rest ≡ drop at line → word ≡ take r rest → r ≤ length rest → ((j : ℕ) → j < r → 0 ≤ j → get_or rest j 0 ≡ 32 → ⊥) → (r < length rest →
    get_or rest r 0 ≡ 32) → word ≡ word_of line k
nth_end line k passed at r rest word l h e d t w b f =
    let none : k - passed ≡ 0 = omega arith in
    t ∙ found_first rest r w b f ∙ ap (λ (s : List ℕ). word_of s 0) d ∙ sym (ap (word_of (drop at line)) none) ∙ e
