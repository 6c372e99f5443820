-- The walk to the first surplus attribute, by steps over the wholes: it finds the first whole that is of no kind that is allowed, or finds none and
-- all are of such a kind. And the count that says whether there is one.
use Prim.Native.Nat.{ℕ, zero, suc, ◌+◌, ◌≤◌}
use mathlib.Core.Path.{◌≡◌, refl, sym, ap, subst, ◌∙◌}
use mathlib.Core.Logic.{⊎_elim}
use mathlib.Core.List.{List, [], ◌∷◌, ◌++◌, map, append_assoc}
use mathlib.Core.Bool.{true, false, ◌||◌, or-true, or-false}
use native.Mathlib.Omega.{arith}
use lib.Dec.{eqb}
use borrow.Author.Tests.{eqb-true, eq-eqb}
use Rattle.wire_read.specs.Tests.{if◌then◌otherwise◌}
use Rattle.wire_read.proofs.Tests.{never, clash, both, by_test}
use Rattle.sa_attribute.specs.Attributes.{attribute_type, attribute_count, value}
use Rattle.sa_coding.specs.Coding.{is_duration, is_life_type}
use Rattle.sa_wholes.specs.Wholes.{wholes, joined, One, alone, pair, attributes_of_all, Orderly, nothing, one_more}
use Rattle.sa_wholes.proofs.Heads.{type_head, take_head, after-head, value-head}
use Rattle.sa_wholes.proofs.Wholes.{Reads, in_alone, in_pair}
use Rattle.policy_suits.specs.Suits.{has_kilobytes, nothing_surplus}
use Rattle.policy_suiting.specs.Suiting.{Offered, single, lifetime, told, offered_list, seconds, kilobytes, at_front, behind}
use Rattle.policy_suiting.proofs.Exactly.{Within, within_more, within_split, none_within, sum, none_of, apart}
use Rattle.policy_suiting.proofs.AttributeList.{LifeType, main-life, quick-life, life-is, duration_no_life, long_enough, told-alone, told-pair, same_type, same_unit, weight}
use Rattle.policy_suiting.proofs.Offers.{found-offered, offered-found, lifetime_in, count_in, kilobytes-long, long-kilobytes}
use Rattle.policy_cause.specs.declared.Wish.{Wish}
use Rattle.policy_cause.specs.Causes.{wanted, wanted_count, type_wanted, is_wanted, first_surplus}
use Rattle.policy_truth.specs.Truth.{OneKind, one_type, one_unit, There, life_type_of, type_of, value_of, AllThere, Allowed, AllAllowed}
use Rattle.policy_truth.proofs.ByKind.{within-map, map-within, same_weight_back, back_same_weight, its_type, reads_apart}
use Rattle.policy_truth.proofs.Wishes.{as_offer, offers, as_seconds, as_single, single_as, unit_as, Wishes}

-- ---- types that are wanted

type_wanted_lem : (t : ℕ) (l : List (ℕ × ℕ)) → type_wanted t l ≡ true → (v : ℕ) × Within (t, v) l
unfolding type_wanted
type_wanted_lem t [] h = clash h
type_wanted_lem t (a ∷ l) h =
    by_test (eqb t a.0)
    (λ e. (a.1, rw (eqb-true t a.0 e) (_, at_front)))
    (λ e. let (v, m) = type_wanted_lem t l (rw e at h) in (v, within_more a m))

wanted_type : (a : ℕ × ℕ) (l : List (ℕ × ℕ)) → Within a l → type_wanted a.0 l ≡ true
unfolding type_wanted
wanted_type a [] m = absurd (none_within m)
wanted_type a (b ∷ l) (rest, at_front) = rw (eq-eqb a.0 a.0 refl)
wanted_type a (b ∷ l) (rest, behind q) = rw (wanted_type a l (_, q)) (or-true (eqb a.0 b.0))

duration-is : {exchange lifetype : ℕ} → LifeType exchange lifetype → (t : ℕ) → is_duration exchange t ≡ eqb t (lifetype + 1)
unfolding is_duration
duration-is main-life t = or-false (eqb t 12)
duration-is quick-life t = refl

pub type_of-life : {exchange lifetype : ℕ} → LifeType exchange lifetype → life_type_of exchange ≡ lifetype
unfolding life_type_of
type_of-life main-life = refl
type_of-life quick-life = refl

there-more : {x : Offered} {l : List Offered} (y : Offered) → There x l → There x (y ∷ l)
there-more y (z, k, m) = (z, k, within_more y m)

all_more : {x : Offered} {wants offered : List Offered} → There x offered → AllThere wants offered → AllThere (x ∷ wants) offered
all_more h all y (rest, at_front) = h
all_more h all y (rest, behind q) = all y (_, q)

with-kilobytes : (l : List Offered) → sum weight (kilobytes 0 ∷ l) ≡ sum weight l + 2
unfolding sum weight
with-kilobytes l = omega arith

-- ---- what the walk meets

-- the first that is not allowed, by its type and value, or nothing
pub data Walked (exchange : ℕ) (wants : List Offered) (found : List ℕ) (offered : List Offered) : Type 0 where
  none-surplus : AllAllowed wants offered → Walked exchange wants found offered
  first-surplus : (before after : List Offered) (x : Offered) → offered ≡ before ++ x ∷ after → AllAllowed wants before → (Allowed wants x → ⊥) →
      attribute_type found ≡ type_of exchange x → value found ≡ value_of x → Walked exchange wants found offered

allowed_more : {wants offered : List Offered} {x : Offered} → Allowed wants x → AllAllowed wants offered → AllAllowed wants (x ∷ offered)
allowed_more h all y (rest, at_front) = h
allowed_more h all y (rest, behind q) = all y (_, q)

walked_on : {exchange : ℕ} {wants offered : List Offered} {found : List ℕ} (x : Offered) → Allowed wants x → Walked exchange wants found offered →
    Walked exchange wants found (x ∷ offered)
walked_on x h (none-surplus all) = none-surplus (allowed_more h all)
walked_on x h (first-surplus before after y e all not-allowed t v) =
    first-surplus (x ∷ before) after y (ap (λ (l : List Offered). x ∷ l) e) (allowed_more h all) not-allowed t v

module _ {exchange : ℕ} {w : Wish} (wishes : Wishes exchange w) where
  abbrev offer : (a : ℕ × ℕ) → Offered
  offer = as_offer w.lifetype w.longest

  -- a single attribute is allowed where its type is wanted, a lifetime where its unit is 1 or 2
  single_allowed : (t v : ℕ) → eqb t w.lifetype ≡ false → type_wanted t (wanted w) ≡ true → Allowed (offers w) (single t v)
  single_allowed t v other h =
      let (u, m) = type_wanted_lem t (wanted w) h in
      let there : Within (single t u) (offers w) = rw (← as_single w.lifetype w.longest (t, u) other) (within-map offer m) in
      (_, one_type, within_more (kilobytes 0) there)

  type_in : (t v : ℕ) → Within (single t v) (kilobytes 0 ∷ offers w) → type_wanted t (wanted w) ≡ true
  type_in t v m =
      ⊎_elim (λ e. never (cc))
      (λ n.
      let (a, e, l) = map-within offer (wanted w) n in
      rw (← same_type (single_as w.lifetype w.longest a t v e).1) (wanted_type a (wanted w) l))
      (within_split m)

  allowed_single : (t v : ℕ) → Allowed (offers w) (single t v) → type_wanted t (wanted w) ≡ true
  allowed_single t v (y, one_type, m) = type_in t _ m

  unit_allowed : (unit d : ℕ) → (eqb unit 1 || eqb unit 2) ≡ true → Allowed (offers w) (lifetime unit d)
  unit_allowed unit d h =
      by_test (eqb unit 1)
      (λ e.
      let life : Within (seconds w.longest) (offers w) =
      rw (← as_seconds w.lifetype w.longest (w.lifetype, 1) (eq-eqb w.lifetype w.lifetype refl)) (within-map offer wishes.lasts) in
      rw (eqb-true unit 1 e) (_, one_unit, within_more (kilobytes 0) life))
      (λ e. rw (eqb-true unit 2 (rw e at h)) (_, one_unit, (_, at_front)))

  unit_in : (unit d : ℕ) → Within (lifetime unit d) (kilobytes 0 ∷ offers w) → (eqb unit 1 || eqb unit 2) ≡ true
  unit_in unit d m =
      ⊎_elim (λ e. let two : unit ≡ 2 = sym (same_unit e) in rw two)
      (λ n. let (a, e, l) = map-within offer (wanted w) n in rw (unit_as w.lifetype w.longest a unit d e))
      (within_split m)

  allowed_unit : (unit d : ℕ) → Allowed (offers w) (lifetime unit d) → (eqb unit 1 || eqb unit 2) ≡ true
  allowed_unit unit d (y, one_unit, m) = unit_in unit _ m

  -- ---- a step of the walk

  module _ {a : List ℕ} (o : One exchange a) (r : List ℕ) where
    surplus-step : (k : ℕ) → first_surplus (suc k) w (a ++ r) ≡ (if is_wanted w (a ++ r) then first_surplus k w r otherwise a)
    unfolding first_surplus
    surplus-step k = rw (long_enough o r, after-head a r o.long o.size, take_head a r o.long o.size)

    wanted-alone : is_life_type exchange (attribute_type a) ≡ false → is_duration exchange (attribute_type a) ≡ false →
        is_wanted w (a ++ r) ≡ type_wanted (attribute_type a) (wanted w)
    unfolding is_wanted
    wanted-alone l d =
        rw (type_head a r o.long, ← life-is wishes.life (attribute_type a), l, ← duration-is wishes.life (attribute_type a), d)

    wanted-life : is_life_type exchange (attribute_type a) ≡ true → is_wanted w (a ++ r) ≡ (eqb (value a) 1 || eqb (value a) 2)
    unfolding is_wanted
    wanted-life l = rw (type_head a r o.long, ← life-is wishes.life (attribute_type a), l, value-head a r o.long o.size)

    wanted-duration : is_duration exchange (attribute_type a) ≡ true → is_wanted w (a ++ r) ≡ true
    unfolding is_wanted
    wanted-duration d =
        rw (
          type_head a r o.long,
          duration_no_life wishes.life (attribute_type a) d,
          ← duration-is wishes.life (attribute_type a),
          d,
        )

  walked : (k : ℕ) {ws : List (List ℕ)} → Orderly exchange ws → attributes_of_all exchange ws ≤ k →
      Walked exchange (offers w) (first_surplus k w (joined ws)) (map (told exchange) ws)
  unfolding joined attributes_of_all type_of value_of
  walked k nothing few = none-surplus (λ x m. absurd (none_within m))
  walked zero (one_more (alone {a} o l d) others rest) few = absurd (omega (arith, in_alone exchange a l))
  walked (suc k) (one_more {ws = ws} (alone {a} o l d) others rest) few =
      rw (surplus-step o (joined ws) k, wanted-alone o (joined ws) l d, told-alone exchange a l)
      (by_test (type_wanted (attribute_type a) (wanted w))
      (λ e. rw e (walked_on (single (attribute_type a) (value a))
      (single_allowed (attribute_type a) (value a) (sym (life-is wishes.life (attribute_type a)) ∙ l) e)
      (walked k rest (omega (arith, in_alone exchange a l)))))
      (λ e. rw e (first-surplus [] (map (told exchange) ws) (single (attribute_type a) (value a)) refl (λ x m. absurd (none_within m))
      (λ h. clash (sym e ∙ allowed_single (attribute_type a) (value a) h)) refl refl)))
  walked zero (one_more (pair {a} {d} o p l m) others rest) few = absurd (omega (arith, in_pair exchange d o l))
  walked (suc zero) (one_more (pair {a} {d} o p l m) others rest) few = absurd (omega (arith, in_pair exchange d o l))
  walked (suc (suc k)) (one_more {ws = ws} (pair {a} {d} o p l m) others rest) few =
      rw (append_assoc a d (joined ws), surplus-step o (d ++ joined ws) (suc k), wanted-life o (d ++ joined ws) l, told-pair d o l)
      (by_test (eqb (value a) 1 || eqb (value a) 2)
      (λ e. rw (e, surplus-step p (joined ws) k, wanted-duration p (joined ws) m)
      (walked_on (lifetime (value a) (value d)) (unit_allowed (value a) (value d) e) (walked k rest (omega (arith, in_pair exchange d o l)))))
      (λ e. rw e (first-surplus [] (map (told exchange) ws) (lifetime (value a) (value d)) refl (λ x n. absurd (none_within n))
      (λ h. clash (sym e ∙ allowed_unit (value a) (value d) h))
      (its_type wishes.life (attribute_type a) l ∙ sym (type_of-life wishes.life)) refl)))

  -- ---- of attributes that read

  module _ (s : List ℕ) (reads : Reads exchange s) where
    abbrev offered : List Offered
    offered = offered_list exchange s

    pub walked_all : Walked exchange (offers w) (first_surplus 16 w s) offered
    unfolding offered_list
    walked_all =
        subst (λ (x : List ℕ). Walked exchange (offers w) (first_surplus 16 w x) (map (told exchange) (wholes exchange s))) reads.all
        (walked 16 reads.orderly reads.few)

    -- the count: where all that is wanted is there, it finds no surplus where and only where all that is offered is allowed

    abbrev lifetype : ℕ
    lifetype = w.lifetype

    has_there : has_kilobytes lifetype s ≡ true → There (kilobytes 0) offered
    has_there e = (_, one_unit, found-offered (lifetime_in wishes.life s reads 2) (kilobytes-long wishes.life s reads e))

    there_has : (d : ℕ) → Within (kilobytes d) offered → has_kilobytes lifetype s ≡ true
    there_has d m = long-kilobytes wishes.life s reads (offered-found (lifetime_in wishes.life s reads 2) d m)

    -- what is offered is no kilobytes where there are none
    no_kilobytes : {x y : Offered} → has_kilobytes lifetype s ≡ false → OneKind x y → kilobytes 0 ≡ y → Within x offered → ⊥
    no_kilobytes none one_type same m = never (cc)
    no_kilobytes none (one_unit {unit} {d}) same m =
        let two : unit ≡ 2 = sym (same_unit same) in
        clash (sym none ∙ there_has d (rw two at m))

    without_kilobytes : has_kilobytes lifetype s ≡ false → AllAllowed (offers w) offered → AllThere offered (offers w)
    without_kilobytes none all x m =
        let (y, k, n) = all x m in
        ⊎_elim (λ same. absurd (no_kilobytes none k same m)) (λ r. (y, k, r)) (within_split n)

    once : apart (offers w) ≡ true
    unfolding apart
    once = (both (none_of (kilobytes 0) (offers w)) (apart (offers w)) wishes.once).1

    only : apart offered ≡ true
    only = reads_apart wishes.life s reads

    module _ (all : AllThere (offers w) offered) where
      pub few_allowed : nothing_surplus (wanted_count w) lifetype s ≡ true → AllAllowed (offers w) offered
      unfolding nothing_surplus
      few_allowed h =
          let count : attribute_count s ≡ (if has_kilobytes lifetype s then wanted_count w + 2 otherwise wanted_count w) = eqb-true _ _ h in
          let own : attribute_count s ≡ sum weight offered = count_in wishes.life s reads in
          by_test (has_kilobytes lifetype s)
          (λ e. same_weight_back (kilobytes 0 ∷ offers w) offered wishes.once (all_more (has_there e) all)
          (omega (arith, own, rw e at count, wishes.weighs, with-kilobytes (offers w))))
          (λ e x m. there-more (kilobytes 0)
          (same_weight_back (offers w) offered once all (omega (arith, own, rw e at count, wishes.weighs)) x m))

      pub allowed_few : AllAllowed (offers w) offered → nothing_surplus (wanted_count w) lifetype s ≡ true
      unfolding nothing_surplus
      allowed_few allowed =
          let own : attribute_count s ≡ sum weight offered = count_in wishes.life s reads in
          by_test (has_kilobytes lifetype s)
          (λ e.
          let same = back_same_weight (kilobytes 0 ∷ offers w) offered wishes.once (all_more (has_there e) all) only allowed in
          rw e (eq-eqb (attribute_count s) (wanted_count w + 2) (omega (arith, own, same, wishes.weighs, with-kilobytes (offers w)))))
          (λ e.
          let same = back_same_weight (offers w) offered once all only (without_kilobytes e allowed) in
          rw e (eq-eqb (attribute_count s) (wanted_count w) (omega (arith, own, same, wishes.weighs))))
