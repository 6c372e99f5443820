-- There is no cause where and only where the test of policy_suits passes, of any bytes.
use Prim.Native.Nat.{ℕ}
use mathlib.Core.Path.{◌≡◌, refl}
use mathlib.Core.List.{List, [], ◌∷◌}
use mathlib.Core.Bool.{Bool, true, false, not, ◌&&◌}
use lib.ListN.{length}
use lib.Dec.{leb, eqb}
use borrow.Author.Tests.{eq-eqb}
use Rattle.std.specs.Prelude.{Option, None, Some}
use Rattle.wire_read.specs.Tests.{if◌then◌otherwise◌}
use Rattle.wire_read.proofs.Tests.{never, both, by_test}
use Rattle.policy_lines.specs.Lines.{main_seconds, quick_protocols, quick_mode, quick_seconds}
use Rattle.sa_attribute.specs.Attributes.{attribute, value}
use Rattle.sa_fields.specs.Fields.{transform_id, attributes_of}
use Rattle.policy_suits.specs.Suits.{present, value_is, seconds_of, seconds_within, kilobytes_some, nothing_surplus, main_values, main_suits, quick_id, quick_authentication, quick_suits, suits_line}
use Rattle.policy_cause.specs.declared.Wish.{Wish}
use Rattle.policy_cause.specs.declared.Cause.{Cause}
use Rattle.policy_cause.specs.Causes.{◌or_else◌, wish_of, main_wanted, quick_wanted, wanted, wanted_count, first_cause, id_cause, is_there, missing_one, missing_cause, value_one, value_cause, surplus_cause, seconds_cause, kilobytes_cause, attributes_cause, wish_cause, transform_cause}
use Rattle.policy_truth.proofs.Wishes.{main_wish, quick_wish}

-- ---- causes

or_else_both : (first next : Option Cause) → (first or_else next) ≡ None → (first ≡ None) × (next ≡ None)
unfolding ◌or_else◌
or_else_both None next h = (refl, h)
or_else_both (Some cause) next h = never (cc)

none_only : (test : Bool) (cause : Cause) → (if test then None otherwise Some cause) ≡ None → test ≡ true
none_only true cause h = refl
none_only false cause h = never (cc)

-- ---- what is wanted is there, and with the values that are wanted

record Fine (lifetype : ℕ) (attributes : List ℕ) (wants : List (ℕ × ℕ)) : Type 0 where
  there : missing_cause lifetype wants attributes ≡ None
  right : value_cause lifetype wants attributes ≡ None

module _ {lifetype : ℕ} {attributes : List ℕ} where
  none-wanted : Fine lifetype attributes []
  unfolding missing_cause value_cause first_cause
  none-wanted = record { there = refl; right = refl }

  module _ {t v : ℕ} {wants : List (ℕ × ℕ)} where
    one_more : missing_one lifetype t attributes ≡ None → value_one lifetype t v attributes ≡ None → Fine lifetype attributes wants →
        Fine lifetype attributes ((t, v) ∷ wants)
    unfolding missing_cause value_cause first_cause ◌or_else◌
    one_more m n rest = record { there = rw m rest.there; right = rw n rest.right }

    value-more : eqb t lifetype ≡ false → value_is t v attributes ≡ true → Fine lifetype attributes wants → Fine lifetype attributes ((t, v) ∷ wants)
    unfolding missing_one is_there value_one value_is
    value-more other h rest =
        let two = both (present t attributes) (eqb (value (attribute t attributes)) v) h in
        one_more (rw (other, two.0)) (rw (other, two.0, two.1)) rest

    first-value : eqb t lifetype ≡ false → Fine lifetype attributes ((t, v) ∷ wants) → value_is t v attributes ≡ true
    unfolding value_cause first_cause value_one
    first-value other f =
        let first : value_one lifetype t v attributes ≡ None = (or_else_both _ _ f.right).0 in
        none_only (value_is t v attributes) _ (rw other at first)

    others : Fine lifetype attributes ((t, v) ∷ wants) → Fine lifetype attributes wants
    unfolding missing_cause value_cause first_cause
    others f = record { there = (or_else_both _ _ f.there).1; right = (or_else_both _ _ f.right).1 }

  seconds-more : (longest : ℕ) {v : ℕ} {wants : List (ℕ × ℕ)} → seconds_within lifetype longest attributes ≡ true → Fine lifetype attributes wants →
      Fine lifetype attributes ((lifetype, v) ∷ wants)
  unfolding missing_one is_there value_one seconds_within
  seconds-more longest h rest =
      let found : List ℕ = seconds_of lifetype attributes in
      let some = both (leb 4 (length found) && leb 1 (value found)) (leb (value found) longest) h in
      let long = both (leb 4 (length found)) (leb 1 (value found)) some.0 in
      one_more (rw (eq-eqb lifetype lifetype refl, long.0)) (rw (eq-eqb lifetype lifetype refl)) rest

-- ---- a wish: all its tests pass

record Passed (w : Wish) (t : List ℕ) : Type 0 where
  same_id : eqb (transform_id t) w.id ≡ true
  fine : Fine w.lifetype (attributes_of t) (wanted w)
  few : nothing_surplus (wanted_count w) w.lifetype (attributes_of t) ≡ true
  lasts : seconds_within w.lifetype w.longest (attributes_of t) ≡ true
  some : kilobytes_some w.lifetype (attributes_of t) ≡ true

module _ (w : Wish) (t : List ℕ) where
  wish_passed : wish_cause w t ≡ None → Passed w t
  unfolding wish_cause attributes_cause id_cause surplus_cause seconds_cause kilobytes_cause
  wish_passed h =
      let first = or_else_both (id_cause w t) (attributes_cause w (attributes_of t)) h in
      let last = or_else_both _ (kilobytes_cause w (attributes_of t)) first.1 in
      let lasting = or_else_both _ (seconds_cause w (attributes_of t)) last.0 in
      let few = or_else_both _ (surplus_cause w (attributes_of t)) lasting.0 in
      let values = or_else_both (missing_cause w.lifetype (wanted w) (attributes_of t)) _ few.0 in
      record {
        same_id = none_only _ _ first.0;
        fine = record { there = values.0; right = values.1 };
        few = none_only _ _ few.1;
        lasts = none_only _ _ lasting.1;
        some = none_only _ _ last.1;
      }

  passed_wish : Passed w t → wish_cause w t ≡ None
  unfolding wish_cause attributes_cause id_cause surplus_cause seconds_cause kilobytes_cause ◌or_else◌
  passed_wish p = rw (p.same_id, p.fine.there, p.fine.right, p.few, p.lasts, p.some)

-- ---- the two exchanges

module _ (longest : ℕ) (t : List ℕ) where
  passed_main : Passed (main_wish longest) t → main_suits longest t ≡ true
  unfolding main_suits main_values wanted wanted_count
  passed_main p =
      let a : Fine 11 (attributes_of t) main_wanted = p.fine in
      let b = others a in
      let c = others b in
      let d = others c in
      rw (p.same_id, first-value refl a, first-value refl b, first-value refl c, first-value refl d, p.lasts, p.some) p.few

  main_passed : main_suits longest t ≡ true → Passed (main_wish longest) t
  unfolding main_suits main_values wanted wanted_count
  main_passed h =
      let few = both _ (nothing_surplus 6 11 (attributes_of t)) h in
      let some = both _ (kilobytes_some 11 (attributes_of t)) few.0 in
      let lasts = both _ (seconds_within 11 longest (attributes_of t)) some.0 in
      let named = both (eqb (transform_id t) 1) (main_values (attributes_of t)) lasts.0 in
      let d = both _ (value_is 20 2 (attributes_of t)) named.1 in
      let c = both _ (value_is 3 10 (attributes_of t)) d.0 in
      let b = both (value_is 1 129 (attributes_of t)) (value_is 2 20 (attributes_of t)) c.0 in
      record {
        same_id = named.0;
        fine = value-more refl b.0 (value-more refl b.1 (value-more refl c.1 (value-more refl d.1
            (seconds-more longest lasts.1 none-wanted))));
        few = few.1;
        lasts = lasts.1;
        some = some.1;
      }

module _ (protocols mode longest protocol : ℕ) (t : List ℕ) where
  abbrev no_five : Bool
  no_five = eqb protocols 2 && eqb protocol 3

  passed_quick : Passed (quick_wish (quick_id protocol) mode (not no_five) longest) t → quick_suits protocols mode longest protocol t ≡ true
  unfolding quick_suits quick_authentication wanted wanted_count
  passed_quick p =
      let a : Fine 1 (attributes_of t) (quick_wanted mode (not no_five)) = p.fine in
      rw (p.same_id, first-value refl a, p.lasts, p.some)
      (by_test no_five
      (λ e. rw e (rw e at p).few)
      (λ e. rw (e, first-value refl (others (others (rw e at a)))) (rw e at p).few))

  quick_passed : quick_suits protocols mode longest protocol t ≡ true → Passed (quick_wish (quick_id protocol) mode (not no_five) longest) t
  unfolding quick_suits quick_authentication wanted wanted_count
  quick_passed h =
      let ends = both _ (quick_authentication protocols protocol (attributes_of t)) h in
      let some = both _ (kilobytes_some 1 (attributes_of t)) ends.0 in
      let lasts = both _ (seconds_within 1 longest (attributes_of t)) some.0 in
      let named = both (eqb (transform_id t) (quick_id protocol)) (value_is 4 mode (attributes_of t)) lasts.0 in
      by_test no_five
      (λ e. record {
        same_id = named.0;
        fine = rw e (value-more refl named.1 (seconds-more longest lasts.1 none-wanted));
        few = rw e (rw e at ends).1;
        lasts = lasts.1;
        some = some.1;
      })
      (λ e.
      let five = both (value_is 5 20 (attributes_of t)) (nothing_surplus 4 1 (attributes_of t)) (rw e at ends).1 in
      record {
        same_id = named.0;
        fine = rw e (value-more refl named.1 (seconds-more longest lasts.1 (value-more refl five.0 none-wanted)));
        few = rw e five.1;
        lasts = lasts.1;
        some = some.1;
      })

-- ---- any line

module _ (exchange i : ℕ) (book : List ℕ) (protocol : ℕ) (t : List ℕ) where
  pub suits-passes : transform_cause exchange i book protocol t ≡ None → suits_line exchange i book protocol t ≡ true
  unfolding transform_cause wish_of suits_line
  suits-passes h =
      by_test (eqb exchange 2)
      (λ e. rw e (passed_main _ t (wish_passed _ t (rw e at h))))
      (λ e. rw e (passed_quick _ _ _ protocol t (wish_passed _ t (rw e at h))))

  pub passes-suits : suits_line exchange i book protocol t ≡ true → transform_cause exchange i book protocol t ≡ None
  unfolding transform_cause wish_of suits_line
  passes-suits h =
      by_test (eqb exchange 2)
      (λ e. rw e (passed_wish _ t (main_passed (main_seconds i book) t (rw e at h))))
      (λ e. rw e (passed_wish _ t (quick_passed (quick_protocols i book) (quick_mode i book) (quick_seconds i book) protocol t (rw e at h))))
