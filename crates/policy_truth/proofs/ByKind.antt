-- Kinds of what is offered and wanted, and counting by kinds: where all that is wanted is there, what is offered weighs as much as what is wanted
-- where and only where it is of wanted kinds alone.
use Prim.Native.Nat.{ℕ, ◌≤◌}
use mathlib.Core.Path.{◌≡◌, refl, sym, ◌∙◌}
use mathlib.Core.Logic.{⊎_elim}
use mathlib.Core.List.{List, [], ◌∷◌, ◌++◌, map}
use mathlib.Core.Bool.{true, false}
use native.Mathlib.Omega.{arith}
use lib.Dec.{eqb}
use borrow.Author.Tests.{eqb-true, eq-eqb}
use Rattle.wire_read.proofs.Tests.{never, clash, both, by_test}
use Rattle.wire_read.proofs.Laws.{number-drop}
use Rattle.sa_attribute.specs.Attributes.{sent_fixed, attribute_type, value}
use Rattle.sa_coding.specs.Coding.{fixed_wrong, is_life_type, value_length, from_value, whole_value, alike}
use Rattle.sa_wholes.specs.Wholes.{One, Whole, alone, pair, Apart, from_none, from_one, Orderly, nothing, one_more}
use Rattle.sa_wholes.proofs.Heads.{alike-head, head-alike}
use Rattle.sa_wholes.proofs.Wholes.{Reads}
use Rattle.policy_suiting.specs.Suiting.{PutIn, Offered, single, lifetime, told, offered_list, at_front, behind}
use Rattle.policy_suiting.proofs.Exactly.{Within, sum, put-sum, put_split, within_more, none_within, exactly_wanted, AllWithin, same_kind, none_of, apart, kind_own, other_kinds, gathered}
use Rattle.policy_suiting.proofs.AttributeList.{LifeType, life-is, life-fixed, told-alone, told-pair, same_type, same_unit, weight, weight_some}
use Rattle.policy_truth.specs.Truth.{OneKind, one_type, one_unit, There, AllThere}

-- ---- lists

module _ {A B : Type 0} (f : A → B) where
  pub within-map : {x : A} {l : List A} → Within x l → Within (f x) (map f l)
  within-map (rest, at_front) = (_, at_front)
  within-map (rest, behind {y = y} q) = within_more (f y) (within-map (_, q))

  -- what was put into the list of a first one and the rest is that one, or was put into the rest
  put_map : (x : A) {y : B} {rest : List B} (l : List A) → PutIn y rest (f x ∷ map f l) →
      (Within y (map f l) → (z : A) × (f z ≡ y) × Within z l) → (z : A) × (f z ≡ y) × Within z (x ∷ l)
  put_map x l at_front below = (x, refl, (_, at_front))
  put_map x l (behind q) below = let (z, e, m) = below (_, q) in (z, e, within_more x m)

  pub map-within : {y : B} (l : List A) → Within y (map f l) → (x : A) × (f x ≡ y) × Within x l
  map-within [] m = absurd (none_within m)
  map-within (x ∷ l) (rest, q) = put_map x l q (map-within l)

  pub map_both : (a b : List A) → map f (a ++ b) ≡ map f a ++ map f b
  map_both [] b = refl
  map_both (x ∷ a) b = rw (map_both a b)

-- ---- the kind of what is offered, as an offer of value 0

unfoldable kind_of : (x : Offered) → Offered
kind_of (single t v) = single t 0
kind_of (lifetime u d) = lifetime u 0

abbrev kinds : (l : List Offered) → List Offered
kinds l = map kind_of l

one_kind : {x y : Offered} → OneKind x y → kind_of x ≡ kind_of y
unfolding kind_of
one_kind one_type = refl
one_kind one_unit = refl

kind_one : (x y : Offered) → kind_of x ≡ kind_of y → OneKind x y
unfolding kind_of
kind_one (single t v) (single u w) e = rw (same_type e) one_type
kind_one (single t v) (lifetime u w) e = never (cc)
kind_one (lifetime t v) (single u w) e = never (cc)
kind_one (lifetime t v) (lifetime u w) e = rw (same_unit e) one_unit

there_kind : {x : Offered} {l : List Offered} → There x l → Within (kind_of x) (kinds l)
there_kind (y, k, m) = rw (one_kind k) (within-map kind_of m)

kind_there : (x : Offered) (l : List Offered) → Within (kind_of x) (kinds l) → There x l
kind_there x l m = let (y, e, n) = map-within kind_of l m in (y, kind_one x y (sym e), n)

all_kinds : (wanted offered : List Offered) → AllThere wanted offered → AllWithin (kinds wanted) (kinds offered)
all_kinds wanted offered all k m = let (x, e, n) = map-within kind_of wanted m in rw (← e) (there_kind (all x n))

weight_kinds : (l : List Offered) → sum weight (kinds l) ≡ sum weight l
unfolding sum weight kind_of
weight_kinds [] = refl
weight_kinds (single t v ∷ l) = rw (weight_kinds l)
weight_kinds (lifetime t v ∷ l) = rw (weight_kinds l)

same_kinds : (a b : Offered) → same_kind (kind_of a) (kind_of b) ≡ same_kind a b
unfolding same_kind kind_of
same_kinds (single t v) (single u w) = refl
same_kinds (single t v) (lifetime u w) = refl
same_kinds (lifetime t v) (single u w) = refl
same_kinds (lifetime t v) (lifetime u w) = refl

none_kinds : (a : Offered) (l : List Offered) → none_of (kind_of a) (kinds l) ≡ none_of a l
unfolding none_of
none_kinds a [] = refl
none_kinds a (b ∷ l) = rw (same_kinds a b, none_kinds a l)

apart_kinds : (l : List Offered) → apart (kinds l) ≡ apart l
unfolding apart
apart_kinds [] = refl
apart_kinds (a ∷ l) = rw (none_kinds a l, apart_kinds l)

-- ---- counting

-- what is there, of kinds that are apart, weighs no more than all
at_most : (l all : List Offered) → apart l ≡ true → AllWithin l all → sum weight l ≤ sum weight all
unfolding apart sum
at_most [] all h f = omega arith
at_most (x ∷ l) all h f =
    let two = both (none_of x l) (apart l) h in
    let m = f x (_, at_front) in
    let rest : AllWithin l m.0 = λ y n. ⊎_elim
    (λ same. absurd (other_kinds x y l two.0 n (rw (← same) (kind_own x))))
    (λ r. r) (put_split m.1 (f y (within_more x n))) in
    omega (arith, put-sum weight m.1, at_most l m.0 two.1 rest)

-- all that is wanted is there: it weighs as much as what is offered where and only where of each that is offered one of its kind is wanted
module _ (wanted offered : List Offered) (once : apart wanted ≡ true) (all : AllThere wanted offered) where
  pub same_weight_back : sum weight offered ≡ sum weight wanted → AllThere offered wanted
  same_weight_back e x m =
      kind_there x wanted
      (exactly_wanted
      (gathered weight weight_some (kinds wanted) (kinds offered) (apart_kinds wanted ∙ once) (all_kinds wanted offered all)
      (weight_kinds offered ∙ e ∙ sym (weight_kinds wanted)))
      (within-map kind_of m))

  pub back_same_weight : apart offered ≡ true → AllThere offered wanted → sum weight offered ≡ sum weight wanted
  back_same_weight only back =
      omega (
        arith,
        weight_kinds offered,
        weight_kinds wanted,
        at_most (kinds wanted) (kinds offered) (apart_kinds wanted ∙ once) (all_kinds wanted offered all),
        at_most (kinds offered) (kinds wanted) (apart_kinds offered ∙ only) (all_kinds offered wanted back),
      )

-- ---- what a transform that reads offers is of kinds that are apart

module _ {exchange lifetype : ℕ} (known : LifeType exchange lifetype) where
  -- a life type is fixed, so its value is all that it says
  life-value : {a : List ℕ} → One exchange a → is_life_type exchange (attribute_type a) ≡ true → whole_value a ≡ value a
  unfolding whole_value value_length from_value value fixed_wrong
  life-value {a} o l =
      by_test (sent_fixed a)
      (λ e. rw (e, number-drop 2 2 a 0))
      (λ e. let wrong : fixed_wrong exchange a ≡ true = rw (life-fixed exchange (attribute_type a) l, e) in clash (sym o.fixed ∙ wrong))

  pub its_type : (t : ℕ) → is_life_type exchange t ≡ true → t ≡ lifetype
  its_type t l = eqb-true t lifetype (sym (life-is known t) ∙ l)

  other_kind : {v w : List ℕ} → Whole exchange v → Whole exchange w → alike exchange v w ≡ false →
      same_kind (told exchange v) (told exchange w) ≡ false
  unfolding alike same_kind
  other_kind (alone {a} o l d) (alone {a = b} p m e) h =
      rw (told-alone exchange a l, told-alone exchange b m)
      (by_test (eqb (attribute_type a) (attribute_type b)) (λ same. clash (sym (rw (same, m) at h))) (λ other. other))
  other_kind (alone {a} o l d) (pair {a = b} {d = e} p q m n) h = rw (told-alone exchange a l, told-pair e p m)
  other_kind (pair {a} {d} o p l m) (alone {a = b} q n e) h = rw (told-pair d o l, told-alone exchange b n)
  other_kind (pair {a} {d} o p l m) (pair {a = b} {d = e} q r n k) h =
      let own : alike exchange a b ≡ false =
      sym (alike-head a d o.long o.size exchange (b ++ e) ∙ head-alike b e q.long q.size exchange a) ∙ h in
      let same : eqb (attribute_type a) (attribute_type b) ≡ true = eq-eqb _ _ (its_type (attribute_type a) l ∙ sym (its_type (attribute_type b) n)) in
      rw (told-pair d o l, told-pair e q n) (rw (same, n, life-value o l, life-value q n) at own)

  none_of_lem : {w : List ℕ} {ws : List (List ℕ)} → Whole exchange w → Apart exchange w ws → Orderly exchange ws →
      none_of (told exchange w) (map (told exchange) ws) ≡ true
  unfolding none_of
  none_of_lem whole from_none nothing = refl
  none_of_lem whole (from_one h others) (one_more also apart rest) = rw (other_kind whole also h) (none_of_lem whole others rest)

  orderly_apart : {ws : List (List ℕ)} → Orderly exchange ws → apart (map (told exchange) ws) ≡ true
  unfolding apart
  orderly_apart nothing = refl
  orderly_apart (one_more whole others rest) = rw (none_of_lem whole others rest) (orderly_apart rest)

  pub reads_apart : (s : List ℕ) → Reads exchange s → apart (offered_list exchange s) ≡ true
  unfolding offered_list
  reads_apart s reads = orderly_apart reads.orderly
