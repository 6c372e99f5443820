-- The tests of a transform that reads pass where and only where Suiting.antt says that it suits; and one that suits is short.
use Prim.Native.Nat.{ℕ, ◌+◌, ◌≤◌}
use mathlib.Core.Path.{◌≡◌, refl}
use mathlib.Core.List.{List, [], ◌∷◌, ◌++◌}
use mathlib.Core.Bool.{Bool, true, ◌&&◌}
use native.Mathlib.Omega.{arith}
use lib.ListN.{length, drop, length-drop}
use lib.Dec.{eqb}
use borrow.Author.Tests.{eqb-true, eq-eqb}
use Rattle.wire_read.specs.Tests.{if◌then◌otherwise◌}
use Rattle.wire_read.proofs.Tests.{both, by_test}
use Rattle.sa_coding.specs.Coding.{must_be_fixed, is_duration, is_life_type}
use Rattle.sa_wholes.proofs.Wholes.{Reads, reads-orderly}
use Rattle.sa_fields.specs.Fields.{transform_id, attributes_of}
use Rattle.sa_transforms.proofs.Laws.{LawfulTransform}
use Rattle.policy_suits.specs.Suits.{value_is, seconds_within, kilobytes_some, nothing_surplus, main_values, main_suits, quick_id, quick_authentication, quick_suits}
use Rattle.policy_suiting.specs.Suiting.{Offered, single, lifetime, offered_list, at_front, behind, seconds, kilobytes, main_attributes, quick_attributes, IfPresent, absent, at_least_one, Matches}
use Rattle.policy_suiting.proofs.Exactly.{Within, none_within, sum, exactly_sum, exactly_wanted, AllWithin, no_more, and-also, all_both, within-behind, sum_both, same_kind, none_of, apart, gathered}
use Rattle.policy_suiting.proofs.AttributeList.{LifeType, main-life, quick-life, weight, weight_some, room, AllFixed}
use Rattle.policy_suiting.proofs.Offers.{Plain, room_in, value-says, seconds-say, kilobytes-say, says-value, says-seconds, says-kilobytes}

-- ---- what is wanted

-- all that is wanted singly is of types that must be fixed
unfoldable all_fixed : (exchange : ℕ) (wanted : List Offered) → Bool
all_fixed exchange [] = true
all_fixed exchange (single t v ∷ wanted) = must_be_fixed exchange t && all_fixed exchange wanted
all_fixed exchange (lifetime u v ∷ wanted) = all_fixed exchange wanted

all-fixed : (exchange : ℕ) (wanted : List Offered) → all_fixed exchange wanted ≡ true → AllFixed exchange wanted
unfolding all_fixed
all-fixed exchange [] h t v m = absurd (none_within m)
all-fixed exchange (single u w ∷ wanted) h t v (others, at_front) = (both (must_be_fixed exchange t) (all_fixed exchange wanted) h).0
all-fixed exchange (single u w ∷ wanted) h t v (others, behind q) =
    all-fixed exchange wanted (both (must_be_fixed exchange u) (all_fixed exchange wanted) h).1 t v (_, q)
all-fixed exchange (lifetime u w ∷ wanted) h t v (others, behind q) = all-fixed exchange wanted h t v (_, q)

-- for each life: n attributes with that of the life among them, of kinds that are apart, also from kilobytes, and of few bytes
record Wish (exchange n : ℕ) (wanted : (life : ℕ) → List Offered) : Type 0 where
  lasts : (life : ℕ) → Within (seconds life) (wanted life)
  once : (life duration : ℕ) → apart (kilobytes duration ∷ wanted life) ≡ true
  weighs : (life : ℕ) → sum weight (wanted life) ≡ n
  fixed : (life : ℕ) → all_fixed exchange (wanted life) ≡ true
  short : (life : ℕ) → sum room (wanted life) ≤ 36

main_wish_lem : Wish 2 6 main_attributes
unfolding same_kind none_of apart sum weight all_fixed must_be_fixed room
main_wish_lem = record {
  lasts = λ life. (_, behind (behind (behind (behind at_front))));
  once = λ life duration. refl;
  weighs = λ life. refl;
  fixed = λ life. refl;
  short = λ life. omega arith;
}

-- "but no 5 in an ESP that goes with AH"
abbrev no_five : (protocols protocol : ℕ) → Bool
no_five protocols protocol = eqb protocols 2 && eqb protocol 3

quick_wish_lem : (protocols mode protocol : ℕ) → Wish 32 (if no_five protocols protocol then 3 otherwise 4) (quick_attributes protocols mode protocol)
unfolding same_kind none_of apart sum weight all_fixed must_be_fixed room
quick_wish_lem protocols mode protocol = record {
  lasts = λ life. (_, behind at_front);
  once = λ life duration. by_test (no_five protocols protocol) (λ e. rw e) (λ e. rw e);
  weighs = λ life. by_test (no_five protocols protocol) (λ e. rw e) (λ e. rw e);
  fixed = λ life. by_test (no_five protocols protocol) (λ e. rw e) (λ e. rw e);
  short = λ life. by_test (no_five protocols protocol) (λ e. rw e (omega arith)) (λ e. rw e (omega arith));
}

-- with the kilobytes, if present
whole_apart : {traffic : List Offered} (wanted : List Offered) → IfPresent traffic → ((duration : ℕ) → apart (kilobytes duration ∷ wanted) ≡ true) →
    apart (traffic ++ wanted) ≡ true
unfolding apart
whole_apart wanted absent once = (both (none_of (kilobytes 0) wanted) (apart wanted) (once 0)).1
whole_apart wanted (at_least_one {duration} least) once = once duration

whole-fixed : (exchange : ℕ) {traffic : List Offered} (wanted : List Offered) → IfPresent traffic → all_fixed exchange wanted ≡ true →
    all_fixed exchange (traffic ++ wanted) ≡ true
unfolding all_fixed
whole-fixed exchange wanted absent h = h
whole-fixed exchange wanted (at_least_one least) h = h

whole-short : {traffic : List Offered} (wanted : List Offered) → IfPresent traffic → sum room (traffic ++ wanted) ≤ 12 + sum room wanted
unfolding sum room
whole-short wanted absent = omega arith
whole-short wanted (at_least_one least) = omega arith

-- ---- any transform that reads

module _ {exchange lifetype : ℕ} (known : LifeType exchange lifetype) (t : List ℕ) (lawful : LawfulTransform exchange t) where
  its_attributes : Reads exchange (attributes_of t)
  unfolding attributes_of
  its_attributes = reads-orderly exchange (drop 8 t) lawful.attributes

  abbrev offered : List Offered
  offered = offered_list exchange (attributes_of t)

  is-offered : (type v : ℕ) → Plain exchange type → value_is type v (attributes_of t) ≡ true → Within (single type v) offered
  is-offered = value-says known (attributes_of t) its_attributes

  module _ (n id longest : ℕ) {wanted : (life : ℕ) → List Offered} (wish : Wish exchange n wanted) where
    -- the ID, the life and all else that is wanted, kilobytes if present, and no more
    matched : transform_id t ≡ id → seconds_within lifetype longest (attributes_of t) ≡ true → kilobytes_some lifetype (attributes_of t) ≡ true →
        nothing_surplus n lifetype (attributes_of t) ≡ true → ((life : ℕ) → Within (seconds life) offered → AllWithin (wanted life) offered) →
        Matches exchange id longest wanted t
    matched same lasts some few all =
        let l = seconds-say known (attributes_of t) its_attributes longest lasts in
        let k = kilobytes-say known (attributes_of t) its_attributes n some few in
        let whole : List Offered = k.traffic ++ wanted l.life in
        let weighs : sum weight offered ≡ sum weight whole = omega (arith, k.weighs, wish.weighs l.life, sum_both weight k.traffic (wanted l.life)) in
        record {
          same_id = same;
          life = l.life;
          from_one = l.from_one;
          to_seconds = l.to_seconds;
          traffic = k.traffic;
          if_present = k.if_present;
          attributes = gathered weight weight_some whole offered (whole_apart (wanted l.life) k.if_present (wish.once l.life))
              (all_both k.traffic k.within (all l.life l.within)) weighs;
        }

    -- and what matches passes
    module _ (m : Matches exchange id longest wanted t) where
      abbrev whole : List Offered
      whole = m.traffic ++ wanted m.life

      whole_once : apart whole ≡ true
      whole_once = whole_apart (wanted m.life) m.if_present (wish.once m.life)

      is-value : (type v : ℕ) → Plain exchange type → Within (single type v) (wanted m.life) → value_is type v (attributes_of t) ≡ true
      is-value type v plain w =
          says-value known (attributes_of t) its_attributes whole_once m.attributes type v plain (within-behind m.traffic w)

      lasts_within : seconds_within lifetype longest (attributes_of t) ≡ true
      lasts_within =
          says-seconds known (attributes_of t) its_attributes whole_once m.attributes m.life longest
          (within-behind m.traffic (wish.lasts m.life)) m.from_one m.to_seconds

      kilobytes_pass : (kilobytes_some lifetype (attributes_of t) ≡ true) × (nothing_surplus n lifetype (attributes_of t) ≡ true)
      kilobytes_pass =
          rw (← wish.weighs m.life)
          (says-kilobytes known (attributes_of t) its_attributes (wanted m.life) m.if_present (wish.once m.life) m.attributes)

      -- "exactly" leaves little room
      is-short : length t ≤ 56
      unfolding attributes_of
      is-short =
          let fixed : AllFixed exchange whole = all-fixed exchange whole (whole-fixed exchange (wanted m.life) m.if_present (wish.fixed m.life)) in
          omega (
            arith,
            length-drop 8 t,
            room_in known (attributes_of t) its_attributes (λ u v w. fixed u v (exactly_wanted m.attributes w)),
            exactly_sum room m.attributes,
            whole-short (wanted m.life) m.if_present,
            wish.short m.life,
          )

-- ---- "A main transform suits if .."

module _ (t : List ℕ) (lawful : LawfulTransform 2 t) (longest : ℕ) where
  pub main-says : main_suits longest t ≡ true → Matches 2 1 longest main_attributes t
  unfolding main_suits main_values is_life_type is_duration
  main-says h =
      let few = both _ (nothing_surplus 6 11 (attributes_of t)) h in
      let some = both _ (kilobytes_some 11 (attributes_of t)) few.0 in
      let lasts = both _ (seconds_within 11 longest (attributes_of t)) some.0 in
      let named = both (eqb (transform_id t) 1) (main_values (attributes_of t)) lasts.0 in
      let d = both _ (value_is 20 2 (attributes_of t)) named.1 in
      let c = both _ (value_is 3 10 (attributes_of t)) d.0 in
      let b = both (value_is 1 129 (attributes_of t)) (value_is 2 20 (attributes_of t)) c.0 in
      let is : (type v : ℕ) → Plain 2 type → value_is type v (attributes_of t) ≡ true → Within (single type v) (offered_list 2 (attributes_of t)) =
      is-offered main-life t lawful in
      matched main-life t lawful 6 1 longest main_wish_lem (eqb-true _ _ named.0) lasts.1 some.1 few.1
      (λ life m. and-also (is 1 129 (refl, refl) b.0) (and-also (is 2 20 (refl, refl) b.1) (and-also (is 3 10 (refl, refl) c.1)
      (and-also (is 20 2 (refl, refl) d.1) (and-also m no_more)))))

  pub says-main : Matches 2 1 longest main_attributes t → main_suits longest t ≡ true
  unfolding main_suits main_values is_life_type is_duration
  says-main m =
      let passes : (type v : ℕ) → Plain 2 type → Within (single type v) (main_attributes m.life) → value_is type v (attributes_of t) ≡ true =
      is-value main-life t lawful 6 1 longest main_wish_lem m in
      let last = kilobytes_pass main-life t lawful 6 1 longest main_wish_lem m in
      rw (
        m.same_id,
        passes 1 129 (refl, refl) (_, at_front),
        passes 2 20 (refl, refl) (_, behind at_front),
        passes 3 10 (refl, refl) (_, behind (behind at_front)),
        passes 20 2 (refl, refl) (_, behind (behind (behind at_front))),
        lasts_within main-life t lawful 6 1 longest main_wish_lem m,
        last.0,
      )
      last.1

  pub main-short : main_suits longest t ≡ true → length t ≤ 56
  main-short h = is-short main-life t lawful 6 1 longest main_wish_lem (main-says h)

-- ---- "A quick one: .."

module _ (t : List ℕ) (lawful : LawfulTransform 32 t) (protocols mode longest protocol : ℕ) where
  abbrev id : ℕ
  id = if eqb protocol 2 then 20 otherwise 129

  abbrev count : ℕ
  count = if no_five protocols protocol then 3 otherwise 4

  abbrev wants : (life : ℕ) → List Offered
  wants = quick_attributes protocols mode protocol

  abbrev five : List Offered
  five = if no_five protocols protocol then [] otherwise single 5 20 ∷ []

  authentication-says : quick_authentication protocols protocol (attributes_of t) ≡ true →
      AllWithin five (offered_list 32 (attributes_of t)) × (nothing_surplus count 1 (attributes_of t) ≡ true)
  unfolding quick_authentication is_life_type is_duration
  authentication-says h =
      by_test (no_five protocols protocol)
      (λ e. rw e (no_more, rw e at h))
      (λ e.
      let two = both (value_is 5 20 (attributes_of t)) (nothing_surplus 4 1 (attributes_of t)) (rw e at h) in
      rw e (and-also (is-offered quick-life t lawful 5 20 (refl, refl) two.0) no_more, two.1))

  pub quick-says : quick_suits protocols mode longest protocol t ≡ true → Matches 32 id longest wants t
  unfolding quick_suits quick_id is_life_type is_duration
  quick-says h =
      let ends = both _ (quick_authentication protocols protocol (attributes_of t)) h in
      let some = both _ (kilobytes_some 1 (attributes_of t)) ends.0 in
      let lasts = both _ (seconds_within 1 longest (attributes_of t)) some.0 in
      let named = both (eqb (transform_id t) id) (value_is 4 mode (attributes_of t)) lasts.0 in
      let last = authentication-says ends.1 in
      matched quick-life t lawful count id longest (quick_wish_lem protocols mode protocol) (eqb-true _ _ named.0) lasts.1 some.1 last.1
      (λ life m. and-also (is-offered quick-life t lawful 4 mode (refl, refl) named.1) (and-also m last.0))

  module _ (m : Matches 32 id longest wants t) where
    passes : (type v : ℕ) → Plain 32 type → Within (single type v) (wants m.life) → value_is type v (attributes_of t) ≡ true
    passes = is-value quick-life t lawful count id longest (quick_wish_lem protocols mode protocol) m

    last_pass : (kilobytes_some 1 (attributes_of t) ≡ true) × (nothing_surplus count 1 (attributes_of t) ≡ true)
    last_pass = kilobytes_pass quick-life t lawful count id longest (quick_wish_lem protocols mode protocol) m

    says-authentication : quick_authentication protocols protocol (attributes_of t) ≡ true
    unfolding quick_authentication is_life_type is_duration
    says-authentication =
        let few : nothing_surplus count 1 (attributes_of t) ≡ true = last_pass.1 in
        by_test (no_five protocols protocol)
        (λ e. rw e (rw e at few))
        (λ e.
        let there : Within (single 5 20) (wants m.life) = rw e (_, behind (behind at_front)) in
        rw (e, passes 5 20 (refl, refl) there) (rw e at few))

    pub says-quick : quick_suits protocols mode longest protocol t ≡ true
    unfolding quick_suits quick_id is_life_type is_duration
    says-quick =
        rw (
          eq-eqb (transform_id t) id m.same_id,
          passes 4 mode (refl, refl) (_, at_front),
          lasts_within quick-life t lawful count id longest (quick_wish_lem protocols mode protocol) m,
          last_pass.0,
        )
        says-authentication

  pub quick-short : quick_suits protocols mode longest protocol t ≡ true → length t ≤ 56
  quick-short h = is-short quick-life t lawful count id longest (quick_wish_lem protocols mode protocol) (quick-says h)
