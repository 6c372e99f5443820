-- What a line wants, as the pairs of a type and a value that causes go by and as the offers that Truth.antt speaks of.
use Prim.Native.Nat.{ℕ}
use mathlib.Core.Path.{◌≡◌, refl, sym, ◌∙◌}
use mathlib.Core.List.{List, [], ◌∷◌, map}
use mathlib.Core.Bool.{Bool, true, false, not, ◌&&◌}
use lib.Dec.{eqb}
use Rattle.wire_read.specs.Tests.{if◌then◌otherwise◌}
use Rattle.wire_read.proofs.Tests.{never, by_test}
use Rattle.sa_coding.specs.Coding.{is_duration}
use Rattle.policy_suiting.specs.Suiting.{Offered, single, lifetime, seconds, kilobytes, quick_attributes, at_front, behind}
use Rattle.policy_suiting.proofs.Exactly.{Within, sum, none_within, same_kind, none_of, apart}
use Rattle.policy_suiting.proofs.AttributeList.{LifeType, main-life, quick-life, same_unit, weight}
use Rattle.policy_cause.specs.declared.Wish.{Wish}
use Rattle.policy_cause.specs.Causes.{wanted, wanted_count}

abbrev pub main_wish : (longest : ℕ) → Wish
main_wish longest = record { id = 1; lifetype = 11; mode = 0; five = false; longest = longest }

abbrev pub quick_wish : (id mode : ℕ) (five : Bool) (longest : ℕ) → Wish
quick_wish id mode five longest = record { id = id; lifetype = 1; mode = mode; five = five; longest = longest }

-- the life type is wanted as seconds, any other with its value
unfoldable pub as_offer : (lifetype longest : ℕ) (a : ℕ × ℕ) → Offered
as_offer lifetype longest a = if eqb a.0 lifetype then seconds longest otherwise single a.0 a.1

abbrev pub offers : (w : Wish) → List Offered
offers w = map (as_offer w.lifetype w.longest) (wanted w)

module _ (lifetype longest : ℕ) (a : ℕ × ℕ) where
  pub as_seconds : eqb a.0 lifetype ≡ true → as_offer lifetype longest a ≡ seconds longest
  unfolding as_offer
  as_seconds e = rw e

  pub as_single : eqb a.0 lifetype ≡ false → as_offer lifetype longest a ≡ single a.0 a.1
  unfolding as_offer
  as_single e = rw e

  -- and back
  pub single_as : (t v : ℕ) → as_offer lifetype longest a ≡ single t v → (eqb a.0 lifetype ≡ false) × (single a.0 a.1 ≡ single t v)
  single_as t v h =
      by_test (eqb a.0 lifetype)
      (λ e. let life : seconds longest ≡ single t v = sym (as_seconds e) ∙ h in never (cc))
      (λ e. (e, sym (as_single e) ∙ h))

  pub unit_as : (unit d : ℕ) → as_offer lifetype longest a ≡ lifetime unit d → unit ≡ 1
  unit_as unit d h =
      by_test (eqb a.0 lifetype)
      (λ e. sym (same_unit (sym (as_seconds e) ∙ h)))
      (λ e. let other : single a.0 a.1 ≡ lifetime unit d = sym (as_single e) ∙ h in never (cc))

abbrev NoDuration : (exchange : ℕ) (l : List (ℕ × ℕ)) → Type 0
NoDuration exchange l = (a : ℕ × ℕ) → Within a l → is_duration exchange a.0 ≡ false

module _ (exchange : ℕ) where
  no_duration : NoDuration exchange []
  no_duration a m = absurd (none_within m)

  nor_this : {t v : ℕ} {l : List (ℕ × ℕ)} → is_duration exchange t ≡ false → NoDuration exchange l → NoDuration exchange ((t, v) ∷ l)
  nor_this h all a (rest, at_front) = h
  nor_this h all a (rest, behind q) = all a (_, q)

-- what all wishes have: no durations but the one behind the life type, seconds, kinds that are apart, also from kilobytes, and as many attributes
-- as are counted
pub record Wishes (exchange : ℕ) (w : Wish) : Type 0 where
  pub life : LifeType exchange w.lifetype
  pub plain : NoDuration exchange (wanted w)
  pub lasts : Within (w.lifetype, 1) (wanted w)
  pub once : apart (kilobytes 0 ∷ offers w) ≡ true
  pub weighs : sum weight (offers w) ≡ wanted_count w

pub main_wishes : (longest : ℕ) → Wishes 2 (main_wish longest)
unfolding wanted wanted_count as_offer same_kind none_of apart sum weight is_duration
main_wishes longest = record {
  life = main-life;
  plain = nor_this 2 refl (nor_this 2 refl (nor_this 2 refl (nor_this 2 refl (nor_this 2 refl (no_duration 2)))));
  lasts = (_, behind (behind (behind (behind at_front))));
  once = refl;
  weighs = refl;
}

pub quick_wishes : (id mode : ℕ) (five : Bool) (longest : ℕ) → Wishes 32 (quick_wish id mode five longest)
unfolding wanted wanted_count as_offer same_kind none_of apart sum weight is_duration
quick_wishes id mode true longest = record {
  life = quick-life;
  plain = nor_this 32 refl (nor_this 32 refl (nor_this 32 refl (no_duration 32)));
  lasts = (_, behind at_front);
  once = refl;
  weighs = refl;
}
quick_wishes id mode false longest = record {
  life = quick-life;
  plain = nor_this 32 refl (nor_this 32 refl (no_duration 32));
  lasts = (_, behind at_front);
  once = refl;
  weighs = refl;
}

-- "4=mode, 1=1, 2 .., and 5=20, but no 5 in an ESP that goes with AH", said in both ways
pub quick-wants : (id protocols mode protocol longest : ℕ) →
    quick_attributes protocols mode protocol longest ≡ offers (quick_wish id mode (not (eqb protocols 2 && eqb protocol 3)) longest)
unfolding wanted as_offer
quick-wants id protocols mode protocol longest = by_test (eqb protocols 2 && eqb protocol 3) (λ e. rw e) (λ e. rw e)
