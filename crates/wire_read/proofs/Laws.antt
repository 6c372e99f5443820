-- The laws of specs/Wire.antt that readers cite: parts, big-endian numbers, comparisons.
use Prim.Native.Nat.{ℕ, zero, suc, ◌+◌, ◌*◌, ◌^◌, ◌≤◌, ◌<◌}
use mathlib.Core.Path.{◌≡◌, refl, sym, ap, ◌∙◌}
use mathlib.Core.List.{List, [], ◌∷◌, ◌++◌}
use mathlib.Core.Bool.{true}
use native.Mathlib.Omega.{arith}
use native.Mathlib.Numerals.{add-one}
use native.Mathlib.Nat.{add-zero, add-suc, add_assoc, mul_assoc, pow-suc}
use lib.ListN.{length, get_or, take, drop, replicate, length-take, length-drop, get_or-eq_default, get_or-append}
use lib.Seq.{drop-cons, get_or-drop, get_or-take, get_or-append-add}
use lib.Dec.{eqb}
use borrow.Author.Tests.{eqb-true, eq-eqb}
use Rattle.wire_read.specs.Wire.{number_at, all_zero, equal}
use Rattle.wire_read.proofs.Tests.{clash, both}

-- ---- numbers

-- bytes that agree spell the same number: all that follows about numbers rests on this
pub number_agree : (n : ℕ) (s t : List ℕ) (i j : ℕ) → ((k : ℕ) → k < n → get_or s (i + k) 0 ≡ get_or t (j + k) 0) → number_at n s i ≡ number_at n t j
unfolding number_at
number_agree zero s t i j h = refl
number_agree (suc n) s t i j h = rw (number_agree n s t i j (λ k l. h k (omega arith)), h n (omega arith))

pub number_past : (n : ℕ) (s : List ℕ) (i : ℕ) → length s ≤ i → number_at n s i ≡ 0
unfolding number_at
number_past zero s i h = refl
number_past (suc n) s i h =
    let g : length s ≤ i + n = omega arith in
    rw (number_past n s i h, get_or-eq_default s 0 g)

-- in a part, and beside one
pub number-drop : (n m : ℕ) (s : List ℕ) (i : ℕ) → number_at n (drop m s) i ≡ number_at n s (m + i)
number-drop n m s i = number_agree n (drop m s) s i (m + i) (λ k l. get_or-drop m s (i + k) 0 ∙ ap (λ (x : ℕ). get_or s x 0) (omega arith))

pub number-take : (n m : ℕ) (s : List ℕ) (i : ℕ) → i + n ≤ m → number_at n (take m s) i ≡ number_at n s i
number-take n m s i h = number_agree n (take m s) s i i (λ k l. get_or-take m s (i + k) 0 (omega arith))

pub number_append : (n : ℕ) (s t : List ℕ) (i : ℕ) → i + n ≤ length s → number_at n (s ++ t) i ≡ number_at n s i
number_append n s t i h = number_agree n (s ++ t) s i i (λ k l. get_or-append s t 0 (i + k) (omega arith))

pub number-append_add : (n : ℕ) (s t : List ℕ) (i : ℕ) → number_at n (s ++ t) (length s + i) ≡ number_at n t i
number-append_add n s t i =
    number_agree n (s ++ t) t (length s + i) i (λ k l. ap (λ (x : ℕ). get_or (s ++ t) x 0) (add_assoc (length s) i k) ∙ get_or-append-add s t (i + k) 0)

-- a number is its first bytes, moved up, and its last
pub number-join : (m n : ℕ) (s : List ℕ) (i : ℕ) → number_at (m + n) s i ≡ number_at m s i * 256 ^ n + number_at n s (i + m)
unfolding number_at
number-join m zero s i = rw add-zero (omega arith)
number-join m (suc n) s i =
    let up : number_at m s i * 256 ^ suc n ≡ number_at m s i * 256 ^ n * 256 = rw (pow-suc 256 n) (sym (mul_assoc (number_at m s i) (256 ^ n) 256)) in
    rw (add-suc, number-join m n s i, up, ← add_assoc i m n) (omega arith)

pub number-one : (s : List ℕ) (i : ℕ) → number_at 1 s i ≡ get_or s i 0
unfolding number_at
number-one s i = rw add-zero (omega arith)

-- ---- parts

-- the part from i on, as its first byte and the part from the code's i + 1 on
pub part-next : (s : List ℕ) (i : ℕ) → i < length s → drop i s ≡ get_or s i 0 ∷ drop (i + 1) s
part-next s i h = rw add-one (drop-cons s i 0 h)

-- a part is no longer than the whole
module _ (n : ℕ) (s : List ℕ) where
  pub take_within : length (take n s) ≤ length s
  take_within = omega (arith, length-take n s)

  pub drop-within : length (drop n s) ≤ length s
  drop-within = omega (arith, length-drop n s)

-- ---- comparisons

pub equal-same : (s : List ℕ) → equal s s ≡ true
unfolding equal
equal-same [] = refl
equal-same (a ∷ s) = rw (eq-eqb a a refl) (equal-same s)

pub equal-true : (s t : List ℕ) → equal s t ≡ true → s ≡ t
unfolding equal
equal-true [] [] h = refl
equal-true [] (b ∷ t) h = clash h
equal-true (a ∷ s) [] h = clash h
equal-true (a ∷ s) (b ∷ t) h =
    let h2 = both (eqb a b) (equal s t) h in
    rw (eqb-true a b h2.0, equal-true s t h2.1)

pub all_zero-true : (s : List ℕ) → all_zero s ≡ true → s ≡ replicate (length s) 0
unfolding all_zero
all_zero-true [] h = refl
all_zero-true (b ∷ s) h =
    let h2 = both (eqb b 0) (all_zero s) h in
    rw (eqb-true b 0 h2.0) (ap (λ (l : List ℕ). 0 ∷ l) (all_zero-true s h2.1))
