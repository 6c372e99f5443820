-- A law for each way out of the functions on causes.
use Prim.Native.Nat.{ℕ, zero, suc, ◌+◌, ◌-◌, ◌≤◌, ◌<◌}
use mathlib.Core.Path.{◌≡◌, refl, sym, ◌∙◌}
use Rattle.std.specs.Prelude.{Option, None, Some, MatchOption, is_some}
use Rattle.std.proofs.Common.{drop-cons, add-one}
use Rattle.std.proofs.Math.Seq.{drop-nil}
use mathlib.Core.List.{List, [], ◌∷◌}
use mathlib.Core.Bool.{Bool, true, false, not, ◌&&◌, ◌||◌, or-false, or_assoc}
use native.Mathlib.Omega.{arith}
use lib.ListN.{length, get_or, take, drop}
use lib.Dec.{ltb, leb, eqb}
use borrow.Author.Tests.{eq-eqb, ne_eqb, lt-ltb, le-ltb, not-true, not-false}
use Rattle.wire_read.specs.Tests.{if◌then◌otherwise◌}
use Rattle.wire_read.proofs.Tests.{clash}
use Rattle.sa_attribute.specs.Attributes.{attribute_type, attribute_size, after_attribute, attribute, value}
use Rattle.sa_fields.specs.Fields.{transform_id, attributes_of}
use Rattle.policy_lines.specs.Lines.{place, main_seconds, quick_protocols, quick_mode, quick_seconds}
use Rattle.policy_lines.specs.declared.LineNumber.{LineNumber}
use Rattle.policy_suits.specs.Suits.{present, value_is, seconds_of, seconds_within, kilobytes_some, nothing_surplus, quick_id, protocols_suit, set_suits}
use Rattle.policy_cause.specs.declared.Wish.{Wish}
use Rattle.policy_cause.specs.declared.Cause.{Cause}
use Rattle.policy_cause.specs.declared.Cause.TheVariants.{Id, Missing, Value, Surplus, Seconds, Kilobytes}
use Rattle.policy_cause.specs.declared.PairCause.TheVariants as pairs
use Rattle.policy_cause.specs.Causes.{◌or_else◌, first_cause, wish_of, main_wanted, quick_wanted, wanted, wanted_count, id_cause, is_there, missing_one, missing_cause, value_one, value_cause, type_wanted, is_wanted, first_surplus, surplus_cause, seconds_cause, kilobytes_cause, attributes_cause, wish_cause, transform_cause, pair_cause}

-- ---- the first of two causes, and of a list

-- any but none
pub else_first : {Cause : Type 0} (first next : Option Cause) → (first ≡ None → ⊥) → first ≡ (first or_else next)
unfolding ◌or_else◌
else_first None next some = absurd (some refl)
else_first (Some cause) next some = refl

-- the next is asked only where there is no first
or_none : {Cause : Type 0} (first next : Option Cause) → is_some first ≡ false → (first or_else next) ≡ next
unfolding ◌or_else◌
or_none None next none = refl
or_none (Some cause) next none = clash (sym none)

or_some : {Cause : Type 0} (first next : Option Cause) → is_some first ≡ true → (first or_else next) ≡ first
unfolding ◌or_else◌
or_some None next some = clash some
or_some (Some cause) next some = refl

-- this one of a list has a cause, or those behind it are asked
module _ (told : ℕ × ℕ → Option Cause) (wanted : List (ℕ × ℕ)) (i : ℕ) (here : i < length wanted) (r : Option Cause)
    (er : r ≡ told (get_or wanted i (0, 0))) where
  cut : first_cause told (drop i wanted) ≡ (r or_else first_cause told (drop (i + 1) wanted))
  unfolding first_cause
  cut = rw (add-one, drop-cons wanted i (0, 0) here, er)

  pub first-on : is_some r ≡ false → first_cause told (drop i wanted) ≡ first_cause told (drop (i + 1) wanted)
  first-on none = cut ∙ or_none r _ none

  pub first-here : is_some r ≡ true → r ≡ first_cause told (drop i wanted)
  first-here some = sym (cut ∙ or_some r _ some)

-- none is left
pub first-none : (told : ℕ × ℕ → Option Cause) (wanted : List (ℕ × ℕ)) (i : ℕ) → length wanted ≤ i → first_cause told (drop i wanted) ≡ None
unfolding first_cause
first-none told [] i h = rw (drop-nil i)
first-none told (a ∷ wanted) zero h = absurd (omega (arith, h))
first-none told (a ∷ wanted) (suc i) h = first-none told wanted i (omega (arith, h))

-- ---- what a line wants

module _ (exchange : ℕ) (line : LineNumber) (book : List ℕ) (protocol i : ℕ) (at_place : i ≡ place line) where
  pub wish_main : exchange ≡ 2 → (seconds : ℕ) → seconds ≡ main_seconds i book →
      record { id = 1; lifetype = 11; mode = 0; five = false; longest = seconds } ≡ wish_of exchange (place line) book protocol
  unfolding wish_of
  wish_main h seconds es = rw (eq-eqb exchange 2 h, ← at_place, ← es)

  pub wish_quick : (exchange ≡ 2 → ⊥) → (protocols number mode seconds : ℕ) → protocols ≡ quick_protocols i book → number ≡ quick_id protocol →
      mode ≡ quick_mode i book → seconds ≡ quick_seconds i book →
      record { id = number; lifetype = 1; mode = mode; five = not (eqb protocols 2 && eqb protocol 3); longest = seconds }
      ≡ wish_of exchange (place line) book protocol
  unfolding wish_of
  wish_quick h protocols number mode seconds ep en em es = rw (ne_eqb exchange 2 h, ← at_place, ← ep, ← en, ← em, ← es)

module _ (w : Wish) where
  pub count-main : w.lifetype ≡ 11 → 6 ≡ wanted_count w
  unfolding wanted_count wanted
  count-main h = rw (eq-eqb w.lifetype 11 h)

  module _ (quick : w.lifetype ≡ 11 → ⊥) where
    pub count_five : w.five ≡ true → 4 ≡ wanted_count w
    unfolding wanted_count wanted
    count_five h = rw (ne_eqb w.lifetype 11 quick, h)

    pub count_without : w.five ≡ false → 3 ≡ wanted_count w
    unfolding wanted_count wanted
    count_without h = rw (ne_eqb w.lifetype 11 quick, h)

  module _ (t : ℕ) where
    pub type_main : w.lifetype ≡ 11 → ((((eqb t 1 || eqb t 2) || eqb t 3) || eqb t 20) || eqb t 11) ≡ type_wanted t (wanted w)
    unfolding type_wanted wanted
    type_main h = rw (
      eq-eqb w.lifetype 11 h,
      or-false (eqb t 11),
      or_assoc ((eqb t 1 || eqb t 2) || eqb t 3) (eqb t 20) (eqb t 11),
      or_assoc (eqb t 1 || eqb t 2) (eqb t 3) (eqb t 20 || eqb t 11),
      or_assoc (eqb t 1) (eqb t 2) (eqb t 3 || (eqb t 20 || eqb t 11)),
    )

    type_five : (five : Bool) → ((eqb t 4 || eqb t 1) || (five && eqb t 5)) ≡ type_wanted t (quick_wanted w.mode five)
    unfolding type_wanted
    type_five true = rw (or-false (eqb t 5), or_assoc (eqb t 4) (eqb t 1) (eqb t 5))
    type_five false = rw (or-false (eqb t 4 || eqb t 1), or-false (eqb t 1))

    pub type_quick : (w.lifetype ≡ 11 → ⊥) → ((eqb t 4 || eqb t 1) || (w.five && eqb t 5)) ≡ type_wanted t (wanted w)
    unfolding wanted
    type_quick h = rw (ne_eqb w.lifetype 11 h) (type_five w.five)

-- ---- the ID

module _ (w : Wish) (t : List ℕ) (found : ℕ) (ef : found ≡ transform_id t) where
  pub id-suits : found ≡ w.id → None ≡ id_cause w t
  unfolding id_cause
  id-suits h = rw (← ef, eq-eqb found w.id h)

  pub id_other : (found ≡ w.id → ⊥) → Some (Id found w.id) ≡ id_cause w t
  unfolding id_cause
  id_other h = rw (← ef, ne_eqb found w.id h)

-- ---- a missing attribute

module _ (lifetype attributetype : ℕ) (attributes : List ℕ) where
  module _ (found : List ℕ) where
    pub there-life : attributetype ≡ lifetype → found ≡ seconds_of lifetype attributes → leb 4 (length found) ≡ is_there lifetype attributetype attributes
    unfolding is_there
    there-life h e = rw (eq-eqb attributetype lifetype h, ← e)

    pub there-other : (attributetype ≡ lifetype → ⊥) → found ≡ attribute attributetype attributes →
        leb 4 (length found) ≡ is_there lifetype attributetype attributes
    unfolding is_there present
    there-other h e = rw (ne_eqb attributetype lifetype h, ← e)

  module _ (b : Bool) (eb : b ≡ is_there lifetype attributetype attributes) where
    pub missing-not : b ≡ true → None ≡ missing_one lifetype attributetype attributes
    unfolding missing_one
    missing-not h = rw (← eb, h)

    pub missing_type : b ≡ false → Some (Missing attributetype) ≡ missing_one lifetype attributetype attributes
    unfolding missing_one
    missing_type h = rw (← eb, h)

-- ---- a wrong value

module _ (lifetype attributetype wanted : ℕ) (attributes : List ℕ) (b : Bool) (eb : b ≡ value_is attributetype wanted attributes) where
  pub value-right : (eqb attributetype lifetype || b) ≡ true → None ≡ value_one lifetype attributetype wanted attributes
  unfolding value_one
  value-right h = rw (← eb, h)

  pub value_wrong : (eqb attributetype lifetype || b) ≡ false → (a : List ℕ) → a ≡ attribute attributetype attributes → (found : ℕ) → found ≡ value a →
      Some (Value attributetype found wanted) ≡ value_one lifetype attributetype wanted attributes
  unfolding value_one
  value_wrong h a ea found ef = rw (← eb, h, ← ea, ← ef)

-- ---- a surplus attribute

module _ (w : Wish) (s : List ℕ) (t : ℕ) (et : t ≡ attribute_type s) where
  pub wanted-life : t ≡ w.lifetype → (unit : ℕ) → unit ≡ value s → (eqb unit 1 || eqb unit 2) ≡ is_wanted w s
  unfolding is_wanted
  wanted-life h unit eu = rw (← et, eq-eqb t w.lifetype h, ← eu)

  pub wanted-other : (t ≡ w.lifetype → ⊥) → (b : Bool) → b ≡ type_wanted t (wanted w) → (eqb t (w.lifetype + 1) || b) ≡ is_wanted w s
  unfolding is_wanted
  wanted-other h b eb = rw (← et, ne_eqb t w.lifetype h, ← eb)

surplus-step : (left : ℕ) (w : Wish) (s : List ℕ) → (left ≡ 0 → ⊥) →
    first_surplus left w s
    ≡ (if ltb (length s) 4 then []
    otherwise if is_wanted w s then first_surplus (left - 1) w (after_attribute s)
    otherwise take (attribute_size s) s)
unfolding first_surplus
surplus-step zero w s h = absurd (h refl)
surplus-step (suc left) w s h = let i : suc left - 1 ≡ left = omega arith in rw i

-- what is left to be looked at after so many
module _ (w : Wish) (attributes s r : List ℕ) (passed : ℕ) (so_far : first_surplus 16 w attributes ≡ first_surplus (16 - passed) w s) where
  pub surplus-out : 16 ≤ passed → r ≡ take 0 s → r ≡ first_surplus 16 w attributes
  unfolding first_surplus
  surplus-out all e = let none : 16 - passed ≡ 0 = omega arith in rw (so_far, none) e

  module _ (may : passed < 16) where
    left : 16 - passed ≡ 0 → ⊥
    left none = omega arith

    pub surplus-end : length s < 4 → r ≡ take 0 s → r ≡ first_surplus 16 w attributes
    surplus-end h e = rw (so_far, surplus-step (16 - passed) w s left, lt-ltb (length s) 4 h) e

    module _ (long : 4 ≤ length s) (n : ℕ) (en : n ≡ attribute_size s) (b : Bool) (eb : b ≡ is_wanted w s) where
      pub surplus-here : not b ≡ true → r ≡ take n s → r ≡ first_surplus 16 w attributes
      surplus-here h e = rw (so_far, surplus-step (16 - passed) w s left, le-ltb (length s) 4 long, ← eb, not-true b h, ← en) e

      pub surplus-on : not b ≡ false → r ≡ drop n s → first_surplus 16 w attributes ≡ first_surplus (16 - (passed + 1)) w r
      unfolding after_attribute
      surplus-on h e =
          let one : 16 - passed - 1 ≡ 16 - (passed + 1) = omega arith in
          rw (so_far, surplus-step (16 - passed) w s left, le-ltb (length s) 4 long, ← eb, not-false b h, ← en, ← e, one)

module _ (w : Wish) (attributes : List ℕ) (count : ℕ) (ec : count ≡ wanted_count w) (b : Bool) (eb : b ≡ nothing_surplus count w.lifetype attributes) where
  pub surplus-none : b ≡ true → None ≡ surplus_cause w attributes
  unfolding surplus_cause
  surplus-none h = rw (← ec, ← eb, h)

  pub surplus-first : b ≡ false → (first : List ℕ) → first ≡ first_surplus 16 w attributes → (t found : ℕ) → t ≡ attribute_type first → found ≡ value first →
      Some (Surplus t found) ≡ surplus_cause w attributes
  unfolding surplus_cause
  surplus-first h first ef t found et ev = rw (← ec, ← eb, h, ← ef, ← et, ← ev)

-- ---- a lifetime out of bounds

module _ (w : Wish) (attributes : List ℕ) (b : Bool) where
  module _ (eb : b ≡ seconds_within w.lifetype w.longest attributes) where
    pub seconds_suit : b ≡ true → None ≡ seconds_cause w attributes
    unfolding seconds_cause
    seconds_suit h = rw (← eb, h)

    pub seconds-out : b ≡ false → (a : List ℕ) → a ≡ seconds_of w.lifetype attributes → (found : ℕ) → found ≡ value a →
        Some (Seconds found w.longest) ≡ seconds_cause w attributes
    unfolding seconds_cause
    seconds-out h a ea found ef = rw (← eb, h, ← ea, ← ef)

  module _ (eb : b ≡ kilobytes_some w.lifetype attributes) where
    pub kilobytes_suit : b ≡ true → None ≡ kilobytes_cause w attributes
    unfolding kilobytes_cause
    kilobytes_suit h = rw (← eb, h)

    pub kilobytes-out : b ≡ false → Some Kilobytes ≡ kilobytes_cause w attributes
    unfolding kilobytes_cause
    kilobytes-out h = rw (← eb, h)

-- ---- a transform, and a pair

module _ (exchange i : ℕ) (book set : List ℕ) (a : Bool) (ea : a ≡ set_suits exchange i book set) where
  pub pair-suits : a ≡ true → None ≡ pair_cause exchange i book set
  unfolding pair_cause
  pair-suits h = rw (← ea, h)

  module _ (left : a ≡ false) (b : Bool) (eb : b ≡ protocols_suit exchange i book set) where
    pub pair-transforms : b ≡ true → Some pairs.Transforms ≡ pair_cause exchange i book set
    unfolding pair_cause
    pair-transforms h = rw (← ea, left, ← eb, h)

    pub pair-protocols : b ≡ false → Some pairs.Protocols ≡ pair_cause exchange i book set
    unfolding pair_cause
    pair-protocols h = rw (← ea, left, ← eb, h)
