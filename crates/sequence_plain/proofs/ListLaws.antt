-- The words of a list: what is written behind its numbers leaves them, and one number more is one more in front of them.
use Prim.Native.Nat.{ℕ, zero, suc, ◌+◌, ◌<◌}
use mathlib.Core.Path.{◌≡◌, refl, ap, ap₂, ◌∙◌}
use mathlib.Core.List.{List, ◌∷◌}
use native.Mathlib.Omega.{arith}
use lib.ListN.{length, get_or, set, length-set}
use lib.Seq.{get_or-set_same, get_or-set_other}
use Rattle.sequence_plain.specs.Plain.{PlainList, most, count_of, first_numbers, numbers_of, with_next}

pub first_length : (list : PlainList) (n : ℕ) → length (first_numbers list n) ≡ n
unfolding first_numbers
first_length list zero = refl
first_length list (suc n) = ap suc (first_length list n)

pub numbers_length : (list : PlainList) → length (numbers_of list) ≡ count_of list
numbers_length list = first_length list (count_of list)

-- lists whose first n numbers are the same
first-same : (a b : PlainList) (n : ℕ) → ((k : ℕ) → k < n → get_or a (suc k) 0 ≡ get_or b (suc k) 0) → first_numbers a n ≡ first_numbers b n
unfolding first_numbers
first-same a b zero same = refl
first-same a b (suc n) same = ap₂ (λ (x : ℕ) (l : List ℕ). x ∷ l) (same n (omega arith)) (first-same a b n (λ k l. same k (omega arith)))

module _ (list : PlainList) (long : length list ≡ most + 1) (number : ℕ) where
  pub next_length : length (with_next list number) ≡ most + 1
  unfolding with_next
  next_length =
      length-set (set list (count_of list + 1) number) 0 (count_of list + 1) ∙ length-set list (count_of list + 1) number ∙ long

  module _ (room : count_of list < most) where
    abbrev written : PlainList
    written = set list (count_of list + 1) number

    next-count : get_or (with_next list number) 0 0 ≡ count_of list + 1
    unfolding with_next
    next-count = get_or-set_same written 0 (count_of list + 1) 0 (omega (arith, length-set list (count_of list + 1) number))

    -- the words behind the count are those with the number written
    behind-count : (k : ℕ) → get_or (with_next list number) (suc k) 0 ≡ get_or written (suc k) 0
    unfolding with_next
    behind-count k = get_or-set_other written 0 (suc k) (count_of list + 1) 0 (omega arith)

    next_last : get_or (with_next list number) (suc (count_of list)) 0 ≡ number
    next_last =
        let place : suc (count_of list) ≡ count_of list + 1 = omega arith in
        behind-count (count_of list) ∙ ap (λ (k : ℕ). get_or written k 0) place
        ∙ get_or-set_same list (count_of list + 1) number 0 (omega arith)

    next-others : (k : ℕ) → k < count_of list → get_or (with_next list number) (suc k) 0 ≡ get_or list (suc k) 0
    next-others k l = behind-count k ∙ get_or-set_other list (count_of list + 1) (suc k) number 0 (omega arith)

    pub next-numbers : numbers_of (with_next list number) ≡ number ∷ numbers_of list
    unfolding first_numbers
    next-numbers =
        let count : count_of (with_next list number) ≡ suc (count_of list) = omega (arith, next-count) in
        ap (first_numbers (with_next list number)) count
        ∙ ap₂ (λ (x : ℕ) (l : List ℕ). x ∷ l) next_last (first-same (with_next list number) list (count_of list) next-others)
