-- Each cause is true of its transform, and no cause before it is: of a transform that reads, in the words of Truth.antt. The conditions go one after
-- the other, as in Causes.antt; what the tests of each find is what is offered.
use Prim.Native.Nat.{ℕ, ◌≤◌}
use mathlib.Core.Path.{◌≡◌, refl, sym, ap, ◌∙◌}
use mathlib.Core.List.{List, [], ◌∷◌, ◌++◌, map}
use mathlib.Core.Bool.{Bool, true, false, not, ◌||◌}
use native.Mathlib.Omega.{arith}
use lib.ListN.{length, drop}
use lib.Dec.{leb, eqb}
use borrow.Author.Tests.{eqb-true, eqb-false, eq-eqb, leb-true, leb-false, le-leb, not-false}
use Rattle.std.specs.Prelude.{Option, None, Some}
use Rattle.wire_read.proofs.Tests.{clash, neither, by_test}
use Rattle.policy_lines.specs.Lines.{main_seconds, quick_protocols, quick_mode, quick_seconds}
use Rattle.sa_attribute.specs.Attributes.{attribute_type, attribute, value}
use Rattle.sa_wholes.proofs.Wholes.{Reads, reads-orderly}
use Rattle.sa_fields.specs.Fields.{transform_id, attributes_of}
use Rattle.sa_transforms.proofs.Laws.{LawfulTransform}
use Rattle.policy_suits.specs.Suits.{present, value_is, seconds_of, kilobytes_of, seconds_within, has_kilobytes, kilobytes_some, nothing_surplus, quick_id, suits_line}
use Rattle.policy_suiting.specs.Suiting.{Offered, single, lifetime, offered_list, at_front, behind, TransformSuits, main, quick}
use Rattle.policy_suiting.proofs.Exactly.{Within, within_more, none_within, within-behind, same_kind, one-of_kind}
use Rattle.policy_suiting.proofs.AttributeList.{life-is, Sought}
use Rattle.policy_suiting.proofs.Offers.{found-offered, offered-found, Plain, single_in, lifetime_in, value-says, seconds-say, kilobytes-long}
use Rattle.policy_suiting.proofs.TransformLaws.{main-says, quick-says}
use Rattle.sa_proposals.proofs.Known.{Known, isakmp, ah-of, esp-of}
use Rattle.policy_cause.specs.declared.Wish.{Wish}
use Rattle.policy_cause.specs.declared.Cause.{Cause}
use Rattle.policy_cause.specs.declared.Cause.TheVariants.{Id, Missing, Value, Surplus, Seconds, Kilobytes}
use Rattle.policy_cause.specs.Causes.{◌or_else◌, wish_of, wanted, wanted_count, id_cause, is_there, missing_one, missing_cause, value_one, value_cause, surplus_cause, seconds_cause, kilobytes_cause, attributes_cause, wish_cause, transform_cause}
use Rattle.policy_truth.specs.Truth.{one_type, one_unit, There, type_of, wanted_id, longest_seconds, wants, AllThere, AllRight, AllAllowed, Says}
use Rattle.policy_truth.specs.Truth as Truth
use Rattle.policy_truth.proofs.Passing.{suits-passes}
use Rattle.policy_truth.proofs.ByKind.{map-within, map_both, reads_apart}
use Rattle.policy_truth.proofs.Wishes.{as_offer, offers, as_seconds, as_single, single_as, Wishes, main_wishes, quick_wishes, quick-wants}
use Rattle.policy_truth.proofs.Conditions.{Condition, holds, fails, and_then, all_told, by_condition, Pass, FirstFails, none_fails, one_fails, first_fails}
use Rattle.policy_truth.proofs.Surplus.{type_of-life, Walked, none-surplus, first-surplus, walked_all, few_allowed, allowed_few}

-- ---- what the tests of one that is wanted say of what is offered

in_before : {A : Type 0} {x : A} (before after : List A) → Within x before → Within x (before ++ after)
in_before [] after m = absurd (none_within m)
in_before (y ∷ before) after (rest, at_front) = (_, at_front)
in_before (y ∷ before) after (rest, behind q) = within_more y (in_before before after (_, q))

same-value : {t u v w : ℕ} → single t v ≡ single u w → v ≡ w
same-value e = cc

module _ {found : List ℕ} {offered : List Offered} where
  type_found : {t v : ℕ} → Sought (single t) found offered → There (single t v) offered → 4 ≤ length found
  type_found sought (y, one_type, m) = offered-found sought _ m

  unit_found : {unit d : ℕ} → Sought (lifetime unit) found offered → There (lifetime unit d) offered → 4 ≤ length found
  unit_found sought (y, one_unit, m) = offered-found sought _ m

module _ {exchange : ℕ} {w : Wish} (wishes : Wishes exchange w) (t : List ℕ) (reads : Reads exchange (attributes_of t)) where
  abbrev s : List ℕ
  s = attributes_of t

  abbrev lifetype : ℕ
  lifetype = w.lifetype

  abbrev offer : (a : ℕ × ℕ) → Offered
  offer = as_offer w.lifetype w.longest

  abbrev offered : List Offered
  offered = offered_list exchange s

  type_of_lem : (a : ℕ × ℕ) → type_of exchange (offer a) ≡ a.0
  unfolding type_of
  type_of_lem a =
      by_test (eqb a.0 lifetype)
      (λ e. rw (as_seconds lifetype w.longest a e) (type_of-life wishes.life ∙ sym (eqb-true a.0 lifetype e)))
      (λ e. rw (as_single lifetype w.longest a e))

  module _ (a : ℕ × ℕ) (m : Within a (wanted w)) where
    its_plain : eqb a.0 lifetype ≡ false → Plain exchange a.0
    its_plain other = (life-is wishes.life a.0 ∙ other, wishes.plain a m)

    there-is : is_there lifetype a.0 s ≡ true → There (offer a) offered
    unfolding is_there present
    there-is h =
        by_test (eqb a.0 lifetype)
        (λ e. rw (as_seconds lifetype w.longest a e)
        (_, one_unit, found-offered (lifetime_in wishes.life s reads 1) (leb-true _ _ (rw e at h))))
        (λ e. rw (as_single lifetype w.longest a e)
        (_, one_type, found-offered (single_in wishes.life s reads a.0 (its_plain e)) (leb-true _ _ (rw e at h))))

    is-there : There (offer a) offered → is_there lifetype a.0 s ≡ true
    unfolding is_there present
    is-there h =
        by_test (eqb a.0 lifetype)
        (λ e. rw e (le-leb _ _ (unit_found (lifetime_in wishes.life s reads 1) (rw (as_seconds lifetype w.longest a e) at h))))
        (λ e. rw e (le-leb _ _ (type_found (single_in wishes.life s reads a.0 (its_plain e)) (rw (as_single lifetype w.longest a e) at h))))

  -- and the tests of some that are wanted
  abbrev there_test : (a : ℕ × ℕ) → Bool
  there_test a = is_there lifetype a.0 s

  abbrev right_test : (a : ℕ × ℕ) → Bool
  right_test a = eqb a.0 lifetype || value_is a.0 a.1 s

  module _ (some : List (ℕ × ℕ)) (are : (a : ℕ × ℕ) → Within a some → Within a (wanted w)) where
    all_there : Pass there_test some → AllThere (map offer some) offered
    all_there pass x m = let (a, e, n) = map-within offer some m in rw (← e) (there-is a (are a n) (pass a n))

    all_right : Pass right_test some → AllRight (map offer some) offered
    unfolding same_kind
    all_right pass u v found m n =
        let (a, e, k) = map-within offer some m in
        let (other, same) = single_as lifetype w.longest a u v e in
        let right : value_is a.0 a.1 s ≡ true = rw other at (pass a k) in
        let there : Within (single u v) offered =
        rw (← same) (value-says wishes.life s reads a.0 a.1 (its_plain a (are a k) other) right) in
        same-value (one-of_kind offered (single u found) (single u v) (reads_apart wishes.life s reads) n there (eq-eqb u u refl))

  -- ---- the conditions of a line

  module _ (i : ℕ) (book : List ℕ) (protocol : ℕ) (same_id : wanted_id exchange protocol ≡ w.id)
      (same-longest : longest_seconds exchange i book ≡ w.longest) (same-wants : wants exchange i book protocol ≡ offers w) where
    abbrev True : (cause : Option Cause) → Type 0
    True cause = Says exchange i book protocol t cause

    abbrev SameId : Type 0
    SameId = transform_id t ≡ wanted_id exchange protocol

    id_condition : Condition True (eqb (transform_id t) w.id ≡ true) (id_cause w t)
    unfolding id_cause ◌or_else◌
    id_condition =
        by_condition (eqb (transform_id t) w.id) (Id (transform_id t) w.id)
        (λ e. rw (← same_id) (Truth.id (eqb-false _ _ (rw (← same_id) at e))))

    its_id : eqb (transform_id t) w.id ≡ true → SameId
    its_id e = eqb-true _ _ e ∙ sym same_id

    -- the list of what is wanted, cut where one of it stands
    module _ (before after : List (ℕ × ℕ)) (a : ℕ × ℕ) (cut : wanted w ≡ before ++ a ∷ after) where
      cut_wants : wants exchange i book protocol ≡ map offer before ++ offer a ∷ map offer after
      cut_wants = same-wants ∙ ap (map offer) cut ∙ map_both offer before (a ∷ after)

      this_wanted : Within a (wanted w)
      this_wanted = rw cut (within-behind before (_, at_front))

      before_wanted : (b : ℕ × ℕ) → Within b before → Within b (wanted w)
      before_wanted b m = rw cut (in_before before (a ∷ after) m)

    missing-first : SameId → {cause : Option Cause} → FirstFails there_test (λ a. Missing a.0) (wanted w) cause →
        Condition True (Pass there_test (wanted w)) cause
    unfolding ◌or_else◌
    missing-first same (none_fails pass) = holds pass
    missing-first same (one_fails before after a cut pass f) =
        fails {cause = Missing a.0}
        (rw (← type_of_lem a)
        (Truth.missing same _ _ (offer a) (cut_wants before after a cut) (all_there before (before_wanted before after a cut) pass)
        (λ h. clash (sym f ∙ is-there a (this_wanted before after a cut) h))))

    missing_condition : SameId → Condition True (Pass there_test (wanted w)) (missing_cause lifetype (wanted w) s)
    unfolding missing_cause missing_one ◌or_else◌
    missing_condition same = missing-first same (first_fails there_test (λ a. Missing a.0) (wanted w))

    -- where none is missing
    module _ (same : SameId) (there : Pass there_test (wanted w)) where
      offers_there : AllThere (offers w) offered
      offers_there = all_there (wanted w) (λ a m. m) there

      wants-there : AllThere (wants exchange i book protocol) offered
      wants-there = rw same-wants offers_there

      -- what is there is found, with the value that it is offered with
      its_found : (a : ℕ × ℕ) → Within a (wanted w) → eqb a.0 lifetype ≡ false →
          (present a.0 s ≡ true) × Within (single a.0 (value (attribute a.0 s))) offered
      unfolding is_there present
      its_found a m other =
          let h : leb 4 (length (attribute a.0 s)) ≡ true = rw other at (there a m) in
          (h, found-offered (single_in wishes.life s reads a.0 (its_plain a m other)) (leb-true _ _ h))

      value-first : {cause : Option Cause} → FirstFails right_test (λ a. Value a.0 (value (attribute a.0 s)) a.1) (wanted w) cause →
          Condition True (Pass right_test (wanted w)) cause
      unfolding ◌or_else◌ value_is
      value-first (none_fails pass) = holds pass
      value-first (one_fails before after a cut pass f) =
          let (other, wrong) = neither (eqb a.0 lifetype) (value_is a.0 a.1 s) f in
          let (h, found) = its_found a (this_wanted before after a cut) other in
          let split : wants exchange i book protocol ≡ map offer before ++ single a.0 a.1 ∷ map offer after =
          rw (← as_single lifetype w.longest a other) (cut_wants before after a cut) in
          fails
          (Truth.value same wants-there _ _ a.0 a.1 _ split (all_right before (before_wanted before after a cut) pass) found
          (eqb-false _ _ (rw h at wrong)))

      value_condition : Condition True (Pass right_test (wanted w)) (value_cause lifetype (wanted w) s)
      unfolding value_cause value_one ◌or_else◌
      value_condition = value-first (first_fails right_test (λ a. Value a.0 (value (attribute a.0 s)) a.1) (wanted w))

      -- and none is wrong
      module _ (right : Pass right_test (wanted w)) where
        wants-right : AllRight (wants exchange i book protocol) offered
        wants-right = rw same-wants (all_right (wanted w) (λ a m. m) right)

        surplus-first : {found : List ℕ} → nothing_surplus (wanted_count w) lifetype s ≡ false → Walked exchange (offers w) found offered →
            True (Some (Surplus (attribute_type found) (value found)))
        surplus-first some (none-surplus all) = clash (sym some ∙ allowed_few wishes s reads offers_there all)
        surplus-first some (first-surplus before after x cut all other type v) =
            rw (type, v) (Truth.surplus same wants-there wants-right before after x cut (rw same-wants all) (rw same-wants other))

        surplus_condition : Condition True (nothing_surplus (wanted_count w) lifetype s ≡ true) (surplus_cause w s)
        unfolding surplus_cause ◌or_else◌
        surplus_condition = by_condition _ _ (λ e. surplus-first e (walked_all wishes s reads))

        -- and nothing is surplus
        module _ (few : nothing_surplus (wanted_count w) lifetype s ≡ true) where
          wants_allowed : AllAllowed (wants exchange i book protocol) offered
          wants_allowed = rw same-wants (few_allowed wishes s reads offers_there few)

          seconds-there : leb 4 (length (seconds_of lifetype s)) ≡ true
          unfolding is_there
          seconds-there = rw (eq-eqb lifetype lifetype refl) at (there (lifetype, 1) wishes.lasts)

          seconds_condition : Condition True (seconds_within lifetype w.longest s ≡ true) (seconds_cause w s)
          unfolding seconds_cause seconds_within ◌or_else◌
          seconds_condition =
              by_condition (seconds_within lifetype w.longest s) (Seconds (value (seconds_of lifetype s)) w.longest)
              (λ e.
              let m = found-offered (lifetime_in wishes.life s reads 1) (leb-true _ _ seconds-there) in
              rw (← same-longest) (Truth.seconds-out same wants-there wants-right wants_allowed (value (seconds_of lifetype s)) m
              (λ least most. clash (sym e ∙ rw (seconds-there, le-leb _ _ least) (le-leb _ _ (rw same-longest at most))))))

          kilobytes_condition : seconds_within lifetype w.longest s ≡ true → Condition True (kilobytes_some lifetype s ≡ true) (kilobytes_cause w s)
          unfolding kilobytes_cause kilobytes_some ◌or_else◌
          kilobytes_condition lasts =
              let l = seconds-say wishes.life s reads w.longest lasts in
              by_condition (kilobytes_some lifetype s) Kilobytes
              (λ e.
              let (has, least) = neither (not (has_kilobytes lifetype s)) (leb 1 (value (kilobytes_of lifetype s))) e in
              let none : value (kilobytes_of lifetype s) ≡ 0 = omega (arith, leb-false 1 (value (kilobytes_of lifetype s)) least) in
              let m = found-offered (lifetime_in wishes.life s reads 2) (kilobytes-long wishes.life s reads (not-false _ has)) in
              Truth.kilobytes-none same wants-there wants-right wants_allowed l.life l.within l.from_one
              (rw same-longest l.to_seconds) (rw none at m))

    -- each condition, where those before it hold
    wish_says : (wish_cause w t ≡ None → TransformSuits exchange i book protocol t) → True (wish_cause w t)
    unfolding wish_cause attributes_cause
    wish_says suit =
        all_told
        (and_then id_condition (λ e.
        let same = its_id e in
        and_then (and_then (and_then (and_then (missing_condition same)
        (λ there. value_condition same there))
        (λ (there, right). surplus_condition same there right))
        (λ ((there, right), few). seconds_condition same there right few))
        (λ (((there, right), few), lasts). kilobytes_condition same there right few lasts)))
        (λ e. Truth.suits (suit e))

-- ---- the lines of the two exchanges

its_attributes : (exchange : ℕ) (t : List ℕ) → LawfulTransform exchange t → Reads exchange (attributes_of t)
unfolding attributes_of
its_attributes exchange t lawful = reads-orderly exchange (drop 8 t) lawful.attributes

module _ (i : ℕ) (book : List ℕ) (protocol : ℕ) (t : List ℕ) where
  main_cause_says : LawfulTransform 2 t → Says 2 i book protocol t (transform_cause 2 i book protocol t)
  unfolding transform_cause wish_of wanted_id longest_seconds wants wanted as_offer suits_line
  main_cause_says lawful =
      wish_says (main_wishes (main_seconds i book)) t (its_attributes 2 t lawful) i book protocol refl refl refl
      (λ e. main refl (main-says t lawful _ (suits-passes 2 i book protocol t e)))

  quick_cause_says : LawfulTransform 32 t → Says 32 i book protocol t (transform_cause 32 i book protocol t)
  unfolding transform_cause wish_of wanted_id longest_seconds wants suits_line quick_id
  quick_cause_says lawful =
      wish_says (quick_wishes (quick_id protocol) (quick_mode i book) _ (quick_seconds i book)) t (its_attributes 32 t lawful) i book protocol refl refl
      (quick-wants (quick_id protocol) (quick_protocols i book) (quick_mode i book) protocol (quick_seconds i book))
      (λ e. quick (λ z. omega arith) (quick-says t lawful _ _ _ _ (suits-passes 32 i book protocol t e)))

-- "Each printed cause must be true of that transform", and is the first that is
pub cause_says : (exchange i : ℕ) (book : List ℕ) (protocol : ℕ) (t : List ℕ) → Known exchange protocol → LawfulTransform exchange t →
    Says exchange i book protocol t (transform_cause exchange i book protocol t)
cause_says exchange i book protocol t isakmp lawful = main_cause_says i book protocol t lawful
cause_says exchange i book protocol t ah-of lawful = quick_cause_says i book protocol t lawful
cause_says exchange i book protocol t esp-of lawful = quick_cause_says i book protocol t lawful
