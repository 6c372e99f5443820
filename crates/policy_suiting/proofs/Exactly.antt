-- Laws of lists in any order: where all that is wanted is there, of kinds that are apart, and weighs as much as what is wanted, exactly that is
-- there.
use Prim.Native.Nat.{ℕ, zero, suc, ◌+◌, ◌≤◌, ◌<◌}
use mathlib.Core.Path.{◌≡◌, refl, sym, ap, ◌∙◌}
use mathlib.Core.Logic.{◌⊎◌, inl, inr, ⊎_elim}
use mathlib.Core.List.{List, [], ◌∷◌, ◌++◌}
use mathlib.Core.Bool.{Bool, true, false, not, ◌&&◌}
use native.Mathlib.Omega.{arith}
use lib.ListN.{length, get_or}
use lib.Dec.{eqb}
use borrow.Author.Tests.{eqb-true, eq-eqb, not-true}
use Rattle.wire_read.specs.Parts.{skip, parts}
use Rattle.wire_read.proofs.Tests.{clash, both, by_test}
use Rattle.policy_suiting.specs.Suiting.{listed, Offered, single, lifetime, PutIn, at_front, behind, Exactly, nothing, one_more}

-- ---- lists of parts

module _ {A : Type 0} (tell : List ℕ → A) (rest : List ℕ → List ℕ) where
  pub listed-count : (left : ℕ) (s : List ℕ) → length (listed tell rest left s) ≡ parts rest left s
  unfolding listed parts
  listed-count zero s = refl
  listed-count (suc left) s =
      by_test (eqb (length s) 0) (λ e. rw e) (λ e. rw (e, listed-count left (rest s)) (omega arith))

  pub listed_at : (left : ℕ) (s : List ℕ) (j : ℕ) (none : A) → j < parts rest left s → get_or (listed tell rest left s) j none ≡ tell (skip rest j s)
  unfolding listed parts skip
  listed_at zero s j none h = absurd (omega arith)
  listed_at (suc left) s zero none h = by_test (eqb (length s) 0) (λ e. absurd (omega (arith, rw e at h))) (λ e. rw e)
  listed_at (suc left) s (suc j) none h =
      by_test (eqb (length s) 0) (λ e. absurd (omega (arith, rw e at h))) (λ e. rw e (listed_at left (rest s) j none (omega (arith, rw e at h))))

-- ---- put in, exactly

abbrev pub Within : {A : Type 0} → A → List A → Type 0
Within {A} x whole = (rest : List A) × PutIn x rest whole

-- what a list weighs
unfoldable pub sum : {A : Type 0} (weight : A → ℕ) (l : List A) → ℕ
sum weight [] = 0
sum weight (x ∷ l) = weight x + sum weight l

module _ {A : Type 0} where
  pub put-sum : (weight : A → ℕ) {x : A} {rest whole : List A} → PutIn x rest whole → sum weight whole ≡ weight x + sum weight rest
  unfolding sum
  put-sum weight at_front = refl
  put-sum weight (behind p) = omega (arith, put-sum weight p)

  pub within_more : (y : A) {x : A} {whole : List A} → Within x whole → Within x (y ∷ whole)
  within_more y (rest, p) = (y ∷ rest, behind p)

  -- what is in the whole is what was put in, or was there before
  pub put_split : {x y : A} {rest whole : List A} → PutIn x rest whole → Within y whole → (x ≡ y) ⊎ Within y rest
  put_split at_front (others, at_front) = inl refl
  put_split at_front (others, behind q) = inr (_, q)
  put_split (behind p) (others, at_front) = inr (_, at_front)
  put_split (behind {y = z} p) (others, behind q) = ⊎_elim inl (λ w. inr (within_more z w)) (put_split p (_, q))

  pub within_split : {x y : A} {rest : List A} → Within y (x ∷ rest) → (x ≡ y) ⊎ Within y rest
  within_split m = put_split at_front m

  put_keeps : {x y : A} {rest whole : List A} → PutIn x rest whole → Within y rest → Within y whole
  put_keeps {x} at_front w = within_more x w
  put_keeps (behind p) (others, at_front) = (_, at_front)
  put_keeps (behind {y = z} p) (others, behind q) = within_more z (put_keeps p (_, q))

  pub exactly_sum : (weight : A → ℕ) {wanted found : List A} → Exactly wanted found → sum weight found ≡ sum weight wanted
  unfolding sum
  exactly_sum weight nothing = refl
  exactly_sum weight (one_more {x} e p) = put-sum weight p ∙ ap (λ (n : ℕ). weight x + n) (exactly_sum weight e)

  put_length : {x : A} {rest whole : List A} → PutIn x rest whole → length whole ≡ suc (length rest)
  put_length at_front = refl
  put_length (behind p) = ap suc (put_length p)

  pub exactly_length : {wanted found : List A} → Exactly wanted found → length found ≡ length wanted
  exactly_length nothing = refl
  exactly_length (one_more e p) = put_length p ∙ ap suc (exactly_length e)

  pub exactly_there : {wanted found : List A} {x : A} → Exactly wanted found → Within x wanted → Within x found
  exactly_there nothing (others, p) = (others, p)
  exactly_there (one_more e p) (others, at_front) = (_, p)
  exactly_there (one_more e p) (others, behind q) = put_keeps p (exactly_there e (_, q))

  pub exactly_wanted : {wanted found : List A} {x : A} → Exactly wanted found → Within x found → Within x wanted
  exactly_wanted nothing (others, p) = (others, p)
  exactly_wanted (one_more {x = y} e p) w = ⊎_elim (λ same. rw (← same) (_, at_front)) (λ r. within_more y (exactly_wanted e r)) (put_split p w)

  pub none_within : {x : A} → Within x [] → ⊥
  none_within (rest, p) = absurd (omega (arith, put_length p))

  -- all that is wanted is there
  abbrev pub AllWithin : List A → List A → Type 0
  AllWithin wanted found = (a : A) → Within a wanted → Within a found

  pub no_more : {found : List A} → AllWithin [] found
  no_more a m = absurd (none_within m)

  pub and-also : {w : A} {wanted found : List A} → Within w found → AllWithin wanted found → AllWithin (w ∷ wanted) found
  and-also m f a (others, at_front) = m
  and-also m f a (others, behind q) = f a (_, q)

  -- one list behind the other
  pub all_both : (a : List A) {b found : List A} → AllWithin a found → AllWithin b found → AllWithin (a ++ b) found
  all_both [] f g = g
  all_both (x ∷ a) f g = and-also (f x (_, at_front)) (all_both a (λ y m. f y (within_more x m)) g)

  pub within-behind : (a : List A) {b : List A} {x : A} → Within x b → Within x (a ++ b)
  within-behind [] m = m
  within-behind (y ∷ a) m = within_more y (within-behind a m)

  pub sum_both : (weight : A → ℕ) (a b : List A) → sum weight (a ++ b) ≡ sum weight a + sum weight b
  unfolding sum
  sum_both weight [] b = omega arith
  sum_both weight (x ∷ a) b = omega (arith, sum_both weight a b)

-- ---- kinds: attributes of one type, lifetimes of one unit

unfoldable pub same_kind : (a b : Offered) → Bool
same_kind (single t v) (single u w) = eqb t u
same_kind (single t v) (lifetime u w) = false
same_kind (lifetime t v) (single u w) = false
same_kind (lifetime t v) (lifetime u w) = eqb t u

unfoldable pub none_of : (a : Offered) (l : List Offered) → Bool
none_of a [] = true
none_of a (b ∷ l) = not (same_kind a b) && none_of a l

-- no two of them are of one kind
unfoldable pub apart : (l : List Offered) → Bool
apart [] = true
apart (a ∷ l) = none_of a l && apart l

eqb_back : (t u : ℕ) → eqb t u ≡ true → eqb u t ≡ true
eqb_back t u e = eq-eqb u t (sym (eqb-true t u e))

kind_back : (a b : Offered) → same_kind a b ≡ true → same_kind b a ≡ true
unfolding same_kind
kind_back (single t v) (single u w) e = eqb_back t u e
kind_back (single t v) (lifetime u w) e = clash e
kind_back (lifetime t v) (single u w) e = clash e
kind_back (lifetime t v) (lifetime u w) e = eqb_back t u e

pub kind_own : (a : Offered) → same_kind a a ≡ true
unfolding same_kind
kind_own (single t v) = eq-eqb t t refl
kind_own (lifetime t v) = eq-eqb t t refl

pub other_kinds : (a b : Offered) (l : List Offered) → none_of a l ≡ true → Within b l → same_kind a b ≡ true → ⊥
unfolding none_of
other_kinds a b [] h m e = none_within m
other_kinds a b (c ∷ l) h (others, at_front) e = clash (sym (not-true _ (both (not (same_kind a b)) (none_of a l) h).0) ∙ e)
other_kinds a b (c ∷ l) h (others, behind q) e = other_kinds a b l (both (not (same_kind a c)) (none_of a l) h).1 (_, q) e

pub one-of_kind : (l : List Offered) (a b : Offered) → apart l ≡ true → Within a l → Within b l → same_kind a b ≡ true → a ≡ b
unfolding apart
one-of_kind [] a b h m n e = absurd (none_within m)
one-of_kind (c ∷ l) a b h (others, at_front) (others', at_front) e = refl
one-of_kind (c ∷ l) a b h (others, at_front) (others', behind q) e = absurd (other_kinds a b l (both (none_of a l) (apart l) h).0 (_, q) e)
one-of_kind (c ∷ l) a b h (others, behind q) (others', at_front) e =
    absurd (other_kinds b a l (both (none_of b l) (apart l) h).0 (_, q) (kind_back a b e))
one-of_kind (c ∷ l) a b h (others, behind q) (others', behind r) e = one-of_kind l a b (both (none_of c l) (apart l) h).1 (_, q) (_, r) e

-- all that is wanted is there, and no more by weight: exactly that
module _ (weight : Offered → ℕ) (some : (a : Offered) → 1 ≤ weight a) where
  pub gathered : (wanted found : List Offered) → apart wanted ≡ true → AllWithin wanted found → sum weight found ≡ sum weight wanted →
      Exactly wanted found
  unfolding apart sum
  gathered [] [] h f e = nothing
  gathered [] (x ∷ found) h f e = absurd (omega (arith, some x))
  gathered (w ∷ wanted) found h f e =
      let two = both (none_of w wanted) (apart wanted) h in
      let m = f w (_, at_front) in
      let rest : AllWithin wanted m.0 = λ a n. ⊎_elim
      (λ same. absurd (other_kinds w a wanted two.0 n (rw (← same) (kind_own w))))
      (λ r. r) (put_split m.1 (f a (within_more w n))) in
      one_more (gathered wanted m.0 two.1 rest (omega (arith, put-sum weight m.1))) m.1
