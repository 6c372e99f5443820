-- What holds of every element and every list of elements.
use Prim.Native.Nat.{ℕ, zero, suc, ◌+◌, ◌≤◌}
use mathlib.Core.Path.{◌≡◌, sym, ◌∙◌, ap}
use mathlib.Core.List.{List}
use mathlib.Core.Bool.{Bool, true, not, ◌||◌, ◌&&◌}
use native.Mathlib.Omega.{arith}
use lib.ListN.{length, drop, length-drop}
use lib.Dec.{ltb, eqb}
use borrow.Author.Tests.{ne_eqb, eq-eqb, eqb-true, eqb-false, ltb-false}
use Rattle.wire_read.proofs.Tests.{neither, by_test}
use Rattle.der.specs.Der.{tag_wrong, constructed, head_size, body_size, contents, size, list, filled, element}

-- an element does not run past the end
pub size_fits : (s : List ℕ) → size s ≤ length s
unfolding size
size_fits s =
    by_test (tag_wrong s || eqb (head_size s) 0 || ltb (length s) (head_size s + body_size s)) (λ w. rw w (omega arith))
    (λ w. rw w (ltb-false (length s) (head_size s + body_size s) (neither (tag_wrong s || eqb (head_size s) 0) (ltb (length s) (head_size s + body_size s)) w).1))

pub element-fits : (levels : ℕ) (s : List ℕ) → element levels s ≤ length s
unfolding element
element-fits zero s = omega arith
element-fits (suc levels) s =
    by_test (constructed s && not (filled (element levels) (contents s))) (λ w. rw w (omega arith)) (λ w. rw w (size_fits s))

-- how many elements are allowed does not matter once each byte could be one
module _ (e : List ℕ → ℕ) where
  list-none : (k : ℕ) (s : List ℕ) → length s ≡ 0 → list e k s ≡ true
  unfolding list
  list-none zero s h = eq-eqb (length s) 0 h
  list-none (suc k) s h = rw (eq-eqb (length s) 0 h)

  list-next : (k : ℕ) (s : List ℕ) → (length s ≡ 0 → ⊥) → list e (suc k) s ≡ (not (eqb (e s) 0) && list e k (drop (e s) s))
  unfolding list
  list-next k s h = rw (ne_eqb (length s) 0 h)

  list_enough : (j k : ℕ) (s : List ℕ) → length s ≤ j → length s ≤ k → list e j s ≡ list e k s
  list_enough zero k s f g = list-none zero s (omega arith) ∙ sym (list-none k s (omega arith))
  list_enough (suc j) zero s f g = list-none (suc j) s (omega arith) ∙ sym (list-none zero s (omega arith))
  list_enough (suc j) (suc k) s f g =
      by_test (eqb (length s) 0)
      (λ w. let z = eqb-true (length s) 0 w in list-none (suc j) s z ∙ sym (list-none (suc k) s z))
      (λ w.
      let some = eqb-false (length s) 0 w in
      list-next j s some
      ∙ by_test (eqb (e s) 0)
      (λ v. rw v)
      (λ v.
      let n = eqb-false (e s) 0 v in
      ap (λ (b : Bool). not (eqb (e s) 0) && b)
      (list_enough j k (drop (e s) s) (simp length-drop (omega arith)) (simp length-drop (omega arith))))
      ∙ sym (list-next k s some))

  module _ (s : List ℕ) where
    pub filled_none : length s ≡ 0 → filled e s ≡ true
    unfolding filled
    filled_none h = list-none (length s) s h

    pub filled-step : (length s ≡ 0 → ⊥) → filled e s ≡ (not (eqb (e s) 0) && filled e (drop (e s) s))
    unfolding filled
    filled-step some =
        list_enough (length s) (suc (length s)) s (omega arith) (omega arith)
        ∙ list-next (length s) s some
        ∙ ap (λ (b : Bool). not (eqb (e s) 0) && b)
        (list_enough (length s) (length (drop (e s) s)) (drop (e s) s) (simp length-drop (omega arith)) (omega arith))
