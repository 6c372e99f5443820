-- A law for each way out of the functions on what suits.
use Prim.Native.Nat.{ℕ, zero, suc, ◌+◌, ◌-◌, ◌≤◌, ◌<◌}
use mathlib.Core.Path.{◌≡◌, refl, sym, ◌∙◌}
use mathlib.Core.List.{List, []}
use mathlib.Core.Bool.{Bool, true, false, not, ◌&&◌, ◌||◌, and-false}
use native.Mathlib.Omega.{arith}
use native.Mathlib.Numerals.{add-one}
use lib.ListN.{length, take, drop}
use lib.Dec.{ltb, leb, eqb}
use borrow.Author.Tests.{eq-eqb, ne_eqb, lt-ltb, le-ltb, le-leb, not-true, not-false}
use Rattle.wire_read.specs.Tests.{if◌then◌otherwise◌}
use Rattle.wire_read.proofs.Tests.{by_test}
use Rattle.wire_read.proofs.Parts.{skip-next}
use Rattle.wire_read.specs.Wire.{number_at}
use Rattle.sa_proposals.specs.Proposals.{transform_bytes}
use Rattle.sa_attribute.specs.Attributes.{attribute_type, attribute_size, after_attribute, attribute, attribute_count, value}
use Rattle.sa_fields.specs.Fields.{transform_number, transform_id, transform_count, attributes_of, protocol}
use Rattle.sa_fields.specs.declared.TransformNumber.{TransformNumber}
use Rattle.wire_read.specs.Parts.{skip}
use Rattle.sa_items.specs.Items.{first_item, after_item, transform, proposal, proposal_count}
use Rattle.policy_lines.specs.Lines.{place, main_seconds, quick_protocols, quick_mode, quick_seconds}
use Rattle.policy_lines.specs.declared.LineNumber.{LineNumber}
use Rattle.std.specs.Prelude.{Option, None, Some, is_some}
use Rattle.policy_suits.specs.Suits.{present, value_is, is_unit, find_duration, seconds_of, kilobytes_of, seconds_within, has_kilobytes, kilobytes_some, nothing_surplus, main_values, quick_id, quick_authentication, main_suits, quick_suits, suits_quick_line, suits_line, transform_suits, lowest_from, lowest, has_transform, lowest_transform, lowest_in, protocols_alone, protocols_both, protocols_suit, set_suits}

pub value_found : (attributetype wanted : ℕ) (attributes found : List ℕ) (v : ℕ) → found ≡ attribute attributetype attributes → v ≡ value found →
    (leb 4 (length found) && eqb v wanted) ≡ value_is attributetype wanted attributes
unfolding value_is present
value_found attributetype wanted attributes found v ef ev = rw (← ef, ← ev)

-- ---- lifetimes

module _ (lifetype unit : ℕ) (s : List ℕ) (t : ℕ) (et : t ≡ attribute_type s) where
  pub unit_other : (t ≡ lifetype → ⊥) → false ≡ is_unit lifetype unit s
  unit_other h = rw (← et, ne_eqb t lifetype h)

  pub unit_value : t ≡ lifetype → (v : ℕ) → v ≡ value s → eqb v unit ≡ is_unit lifetype unit s
  unit_value h v ev = rw (← et, ← ev, eq-eqb t lifetype h)

-- after `passed` of the `most` attributes, from which on the search goes the way it goes from the start
module _ (most passed lifetype unit : ℕ) (rest goal : List ℕ) (so_far : find_duration (most - passed) lifetype unit rest ≡ goal) where
  pub duration-out : most ≤ passed → [] ≡ goal
  unfolding find_duration
  duration-out h =
      let e : most - passed ≡ 0 = omega arith in
      rw e at so_far

  module _ (more : passed < most) where
    duration-step : goal ≡ (if ltb (length rest) 4 then []
        otherwise if is_unit lifetype unit rest then take (attribute_size (after_attribute rest)) (after_attribute rest)
        otherwise find_duration (most - (passed + 1)) lifetype unit (after_attribute rest))
    unfolding find_duration
    duration-step =
        let e : most - passed ≡ suc (most - (passed + 1)) = omega arith in
        sym (rw e at so_far)

    pub duration-end : length rest < 4 → [] ≡ goal
    duration-end h = rw (duration-step, lt-ltb (length rest) 4 h)

    module _ (long : 4 ≤ length rest) (n : ℕ) (en : n ≡ attribute_size rest) (behind : List ℕ) (eb : behind ≡ drop n rest) (unit-here : Bool)
        (eu : unit-here ≡ is_unit lifetype unit rest) where
      pub duration-here : unit-here ≡ true → (m : ℕ) → m ≡ attribute_size behind → (r : List ℕ) → r ≡ take m behind → r ≡ goal
      unfolding after_attribute
      duration-here h m em r e = rw (duration-step, le-ltb (length rest) 4 long, ← eu, h, ← en, ← eb, ← em) e

      pub duration-on : unit-here ≡ false → find_duration (most - (passed + 1)) lifetype unit behind ≡ goal
      unfolding after_attribute
      duration-on h = rw (duration-step, le-ltb (length rest) 4 long, ← eu, h, ← en, ← eb)

pub seconds-found : (lifetype longest : ℕ) (attributes found : List ℕ) (v : ℕ) → found ≡ seconds_of lifetype attributes → v ≡ value found →
    (leb 4 (length found) && leb 1 v && leb v longest) ≡ seconds_within lifetype longest attributes
unfolding seconds_within
seconds-found lifetype longest attributes found v ef ev = rw (← ef, ← ev)

module _ (lifetype : ℕ) (attributes found : List ℕ) (ef : found ≡ kilobytes_of lifetype attributes) where
  pub kilobytes-there : leb 4 (length found) ≡ has_kilobytes lifetype attributes
  unfolding has_kilobytes
  kilobytes-there = rw (← ef)

  pub kilobytes-found : (v : ℕ) → v ≡ value found → (not (leb 4 (length found)) || leb 1 v) ≡ kilobytes_some lifetype attributes
  unfolding kilobytes_some has_kilobytes
  kilobytes-found v ev = rw (← ef, ← ev)

module _ (wanted lifetype : ℕ) (attributes : List ℕ) (count : ℕ) (ec : count ≡ attribute_count attributes) (has : Bool)
    (eh : has ≡ has_kilobytes lifetype attributes) where
  pub surplus-kilobytes : has ≡ true → eqb count (wanted + 2) ≡ nothing_surplus wanted lifetype attributes
  unfolding nothing_surplus
  surplus-kilobytes h = rw (← ec, ← eh, h)

  pub surplus-seconds : has ≡ false → eqb count wanted ≡ nothing_surplus wanted lifetype attributes
  unfolding nothing_surplus
  surplus-seconds h = rw (← ec, ← eh, h)

-- ---- a transform

pub values-found : (attributes : List ℕ) (a b c d : Bool) → a ≡ value_is 1 129 attributes → b ≡ value_is 2 20 attributes → c ≡ value_is 3 10 attributes →
    d ≡ value_is 20 2 attributes → (a && b && c && d) ≡ main_values attributes
unfolding main_values
values-found attributes a b c d ea eb ec ed = rw (← ea, ← eb, ← ec, ← ed)

pub main-found : (seconds id : ℕ) (t attributes : List ℕ) (values life some few : Bool) → attributes ≡ attributes_of t → id ≡ transform_id t →
    values ≡ main_values attributes → life ≡ seconds_within 11 seconds attributes → some ≡ kilobytes_some 11 attributes → few ≡ nothing_surplus 6 11 attributes →
    (eqb id 1 && values && life && some && few) ≡ main_suits seconds t
unfolding main_suits
main-found seconds id t attributes values life some few ea ei ev el es ef = rw (← ea, ← ei, ← ev, ← el, ← es, ← ef)

pub authentication-both : (protocols protocol : ℕ) (attributes : List ℕ) (a b : Bool) → (eqb protocols 2 && eqb protocol 3) ≡ false →
    a ≡ value_is 5 20 attributes → b ≡ nothing_surplus 4 1 attributes → (a && b) ≡ quick_authentication protocols protocol attributes
unfolding quick_authentication
authentication-both protocols protocol attributes a b h ea eb = rw (h, ← ea, ← eb)

-- a transform is left at the first test that it does not pass
module _ (line : LineNumber) (book : List ℕ) (protocol : ℕ) (t : List ℕ) where
  abbrev suits : Bool
  suits = suits_quick_line (place line) book protocol t

  module _ (attributes : List ℕ) (id wanted : ℕ) (ea : attributes ≡ attributes_of t) (ei : id ≡ transform_id t) (ew : wanted ≡ quick_id protocol) where
    pub quick-other : (id ≡ wanted → ⊥) → false ≡ suits
    unfolding quick_suits
    quick-other h = rw (← ei, ← ew, ne_eqb id wanted h)

    module _ (same : id ≡ wanted) (i : ℕ) (at_place : i ≡ place line) (seconds : ℕ) (es : seconds ≡ quick_seconds i book) (l : Bool)
        (el : l ≡ seconds_within 1 seconds attributes) where
      pub quick-life : not l ≡ true → false ≡ suits
      unfolding quick_suits
      quick-life h = rw (← ea, ← at_place, ← es, ← el, not-true l h, and-false)

      module _ (lives : not l ≡ false) (mode : ℕ) (em : mode ≡ quick_mode i book) (a : Bool) (ev : a ≡ value_is 4 mode attributes) where
        pub quick_mode_lem : not a ≡ true → false ≡ suits
        unfolding quick_suits
        quick_mode_lem h = rw (← ei, ← ew, eq-eqb id wanted same, ← ea, ← at_place, ← em, ← ev, not-true a h)

        module _ (in-mode : not a ≡ false) (b : Bool) (eb : b ≡ kilobytes_some 1 attributes) where
          pub quick-kilobytes : not b ≡ true → false ≡ suits
          unfolding quick_suits
          quick-kilobytes h = rw (← ea, ← eb, not-true b h, and-false)

          pub quick-rest : not b ≡ false → (protocols : ℕ) → protocols ≡ quick_protocols i book → (r : Bool) →
              r ≡ quick_authentication protocols protocol attributes → r ≡ suits
          unfolding quick_suits
          quick-rest h protocols ep r e =
              rw (
                ← ei,
                ← ew,
                eq-eqb id wanted same,
                ← ea,
                ← at_place,
                ← em,
                ← ev,
                not-false a in-mode,
                ← eb,
                not-false b h,
                ← es,
                ← el,
                not-false l lives,
                ← ep,
              ) e

module _ (exchange : ℕ) (line : LineNumber) (book : List ℕ) (protocol : ℕ) (t : List ℕ) (r : Bool) where
  pub main-line : exchange ≡ 2 → (i : ℕ) → i ≡ place line → (seconds : ℕ) → seconds ≡ main_seconds i book → r ≡ main_suits seconds t →
      r ≡ suits_line exchange (place line) book protocol t
  unfolding suits_line
  main-line h i at_place seconds es e = rw (eq-eqb exchange 2 h, ← at_place, ← es) e

  pub quick-line : (exchange ≡ 2 → ⊥) → r ≡ suits_quick_line (place line) book protocol t → r ≡ suits_line exchange (place line) book protocol t
  unfolding suits_line
  quick-line h e = rw (ne_eqb exchange 2 h) e

-- the transforms that lie behind the first k are those from place k on
module _ (exchange i : ℕ) (book p : List ℕ) where
  abbrev named : ℕ → Option TransformNumber
  named k = if leb 1 k then Some (transform_number (transform (k - 1) p)) otherwise None

  in_places : (n k : ℕ) → lowest_in n exchange i book (protocol p) (skip after_item k (transform_bytes p)) ≡ named (lowest_from n k exchange i book p)
  unfolding lowest_in lowest_from transform_suits transform
  in_places zero k = refl
  in_places (suc n) k =
      let here : List ℕ = skip after_item k (transform_bytes p) in
      let back : k + 1 - 1 ≡ k = omega arith in
      let next : skip after_item (k + 1) (transform_bytes p) ≡ after_item here = rw add-one (skip-next after_item k (transform_bytes p)) in
      by_test (suits_line exchange i book (protocol p) (first_item here))
      (λ h. rw (h, le-leb 1 (k + 1) (omega arith), back))
      (λ h. rw (h, ← next) (in_places n (k + 1)))

  pub lowest-begin : (n number : ℕ) (rest : List ℕ) → n ≡ transform_count p → number ≡ protocol p → rest ≡ transform_bytes p →
      lowest_in (n - 0) exchange i book number rest ≡ lowest_transform exchange i book p
  unfolding lowest_transform lowest skip
  lowest-begin n number rest en eu er =
      let all : n - 0 ≡ n = omega arith in
      rw (all, en, eu, er) (in_places (transform_count p) 0)

  pub has-found : (found : Option TransformNumber) (has : Bool) → found ≡ lowest_transform exchange i book p → has ≡ is_some found →
      has ≡ has_transform exchange i book p
  unfolding lowest_transform
  has-found found has ef eh = eh ∙ (rw ef (by_test (has_transform exchange i book p) (λ h. rw h) (λ h. rw h)))

-- after `passed` of the n transforms
module _ (n passed exchange i : ℕ) (book : List ℕ) (protocol : ℕ) (rest : List ℕ) (goal : Option TransformNumber)
    (so_far : lowest_in (n - passed) exchange i book protocol rest ≡ goal) where
  pub lowest-out : n ≤ passed → None ≡ goal
  unfolding lowest_in
  lowest-out h =
      let e : n - passed ≡ 0 = omega arith in
      rw e at so_far

  module _ (more : passed < n) (size : ℕ) (es : size ≡ number_at 2 rest 2) (t : List ℕ) (et : t ≡ take size rest) (b : Bool)
      (eb : b ≡ suits_line exchange i book protocol t) where
    in_step : goal ≡ (if b then Some (transform_number t) otherwise lowest_in (n - (passed + 1)) exchange i book protocol (drop size rest))
    unfolding lowest_in first_item after_item
    in_step =
        let e : n - passed ≡ suc (n - (passed + 1)) = omega arith in
        rw (eb, et, es) (sym (rw e at so_far))

    pub lowest-here : b ≡ true → (number : TransformNumber) → number ≡ transform_number t → Some number ≡ goal
    lowest-here h number en = rw (in_step, h, ← en)

    pub lowest-on : b ≡ false → (behind : List ℕ) → behind ≡ drop size rest → lowest_in (n - (passed + 1)) exchange i book protocol behind ≡ goal
    lowest-on h behind ea = rw (in_step, h, ← ea)

module _ (set p : List ℕ) (count first : ℕ) (ec : count ≡ proposal_count set) (ep : p ≡ proposal 0 set) (ef : first ≡ protocol p) where
  pub one-protocol : (wanted : ℕ) → (eqb count 1 && eqb first wanted) ≡ protocols_alone wanted set
  unfolding protocols_alone
  one-protocol wanted = rw (← ec, ← ep, ← ef)

  pub two-protocols : (q : List ℕ) (second : ℕ) → q ≡ proposal 1 set → second ≡ protocol q →
      (eqb count 2 && (eqb first 2 && eqb second 3 || eqb first 3 && eqb second 2)) ≡ protocols_both set
  unfolding protocols_both
  two-protocols q second eq es = rw (← ec, ← ep, ← ef, ← eq, ← es)

module _ (exchange : ℕ) (line : LineNumber) (book set : List ℕ) (r : Bool) where
  pub protocols-main : exchange ≡ 2 → r ≡ protocols_alone 1 set → r ≡ protocols_suit exchange (place line) book set
  unfolding protocols_suit
  protocols-main h e = rw (eq-eqb exchange 2 h) e

  module _ (quick : exchange ≡ 2 → ⊥) (i : ℕ) (at_place : i ≡ place line) (protocols : ℕ) (ep : protocols ≡ quick_protocols i book) where
    pub protocols-alone : protocols ≡ 1 → r ≡ protocols_alone 3 set → r ≡ protocols_suit exchange (place line) book set
    unfolding protocols_suit
    protocols-alone h e = rw (ne_eqb exchange 2 quick, ← at_place, ← ep, eq-eqb protocols 1 h) e

    pub protocols-both : (protocols ≡ 1 → ⊥) → r ≡ protocols_both set → r ≡ protocols_suit exchange (place line) book set
    unfolding protocols_suit
    protocols-both h e = rw (ne_eqb exchange 2 quick, ← at_place, ← ep, ne_eqb protocols 1 h) e

-- a set is left at its first proposal, or at its protocols
module _ (exchange i : ℕ) (book set p : List ℕ) (has : Bool) (ep : p ≡ proposal 0 set) (eh : has ≡ has_transform exchange i book p) where
  pub set_first : not has ≡ true → false ≡ set_suits exchange i book set
  unfolding set_suits
  set_first h = rw (← ep, ← eh, not-true has h, and-false)

  module _ (some : not has ≡ false) (b : Bool) (eb : b ≡ protocols_suit exchange i book set) where
    pub set-protocols : not b ≡ true → false ≡ set_suits exchange i book set
    unfolding set_suits
    set-protocols h = rw (← eb, not-true b h)

    pub set_rest : not b ≡ false → (count : ℕ) (q : List ℕ) (second : Bool) → count ≡ proposal_count set → q ≡ proposal 1 set →
        second ≡ has_transform exchange i book q → (eqb count 1 || second) ≡ set_suits exchange i book set
    unfolding set_suits
    set_rest suit count q second ec eq es = rw (← eb, not-false b suit, ← ep, ← eh, not-false has some, ← ec, ← eq, ← es)
