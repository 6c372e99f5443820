-- Why what policy_lawful finds is right: nothing differs between two bodies that read exactly where the reply repeats the offer, and nothing
-- from the book's choice exactly where it is that. A number names one set and one transform, so looking them up by it loses nothing.
use Prim.Native.Nat.{ℕ, zero, suc, ◌+◌, ◌-◌, ◌≤◌, ◌<◌}
use mathlib.Core.Path.{◌≡◌, refl, sym, ap, ◌∙◌}
use mathlib.Core.List.{List, ◌∷◌}
use mathlib.Core.Bool.{◌&&◌, or-true}
use native.Mathlib.Omega.{arith}
use lib.ListN.{length, get_or, drop}
use lib.Seq.{drop-cons, drop-drop, get_or-drop}
use lib.Dec.{eqb}
use borrow.Author.Tests.{eq-eqb, ne_eqb, eqb-true, eqb-false}
use Rattle.wire_read.specs.Wire.{number_at, equal}
use Rattle.wire_read.proofs.Tests.{never, both, by_test}
use Rattle.wire_read.proofs.Laws.{equal-same, equal-true}
use Rattle.sa_transforms.proofs.Laws.{LawfulTransform}
use Rattle.sa_proposals.specs.Proposals.{offer_code}
use Rattle.sa_proposals.proofs.Laws.{Item}
use Rattle.sa_fields.specs.Fields.{proposal_number, protocol, transform_count, transform_number, transform_id, attributes_of}
use Rattle.sa_fields.specs.declared.ProposalNumber.{ProposalNumber}
use Rattle.sa_fields.specs.declared.TransformNumber.{TransformNumber}
use Rattle.sa_items.specs.Items.{proposal, proposal_count, transform, transform_numbered}
use Rattle.sa_items.proofs.Laws.{transform-lawful, transform-by-number}
use Rattle.sa_sets.specs.Sets.{set, set_count, set_numbered}
use Rattle.sa_sets.proofs.Places.{LawfulSet, set-lawful, set-by-number}
use Rattle.sa_found.proofs.FoundLaws.{set-some, set-few, set_found, transform-found}
use Rattle.policy_lines.specs.declared.LineNumber.{LineNumber}
use Rattle.policy_suiting.proofs.Laws.{Passed, suits_passed}
use Rattle.policy_choice.specs.Choice.{transforms_of, chosen, choose_from}
use Rattle.policy_choice.specs.Choice.{Choice}
use Rattle.policy_choice.specs.Choice as choices
use Rattle.policy_choice.specs.declared.Transforms.{Transforms}
use Rattle.policy_choice.specs.declared.Transforms.TheVariants.{One, Two}
use Rattle.policy_choice.proofs.Laws.{Choosing, fourteen, chose, choosing}
use Rattle.policy_lawful.specs.Difference.{Nothing}
use Rattle.policy_lawful.specs.Lawful.{replied_transform, offered_transform, several_transforms, transform_not_offered, other_id, other_attributes, last, has_protocol, same_protocols, same_order, protocols_differ, transforms_differ, replied_set, replied_number, offered_set, sets_differ, bodies_differ, other_transform, other_transforms, other_set, choice_differs}
use Rattle.policy_repeats.proofs.Refusals.{neither_differs, nothing_differs}
use Rattle.policy_repeats.specs.Repeats.{content, RepeatsProposal, RepeatsSet, RepeatsOffer, Takes, one, two, IsChoice}

-- ---- numbers

transform-number : (a b : TransformNumber) → a.0 ≡ b.0 → a ≡ b
transform-number a b h = ap (λ (n : ℕ). record { 0 = n }) h

proposal-number : (a b : ProposalNumber) → a.0 ≡ b.0 → a ≡ b
proposal-number a b h = ap (λ (n : ℕ). record { 0 = n }) h

-- ---- what stands behind next, reserved and length of a transform that reads: number, ID, two zero bytes, attributes

module _ (exchange : ℕ) (t : List ℕ) (l : LawfulTransform exchange t) where
  content-is : content t ≡ (transform_number t).0 ∷ transform_id t ∷ 0 ∷ 0 ∷ attributes_of t
  unfolding transform_number transform_id attributes_of number_at
  content-is =
      let a = drop-cons t 4 0 (omega (arith, l.long)) in
      let b = drop-cons t 5 0 (omega (arith, l.long)) in
      let c = drop-cons t 6 0 (omega (arith, l.long)) in
      let d = drop-cons t 7 0 (omega (arith, l.long)) in
      let six : get_or t 6 0 ≡ 0 = omega (arith, l.also_reserved) in
      let seven : get_or t 7 0 ≡ 0 = omega (arith, l.also_reserved) in
      rw (a, b, c, d, six, seven)

-- so what was compared is all of it
module _ (x y : ℕ) (t u : List ℕ) (l : LawfulTransform x t) (m : LawfulTransform y u) where
  same-content : transform_number t ≡ transform_number u → transform_id t ≡ transform_id u → attributes_of t ≡ attributes_of u → content t ≡ content u
  same-content n i a = rw (content-is x t l, content-is y u m, n, i, a)

pub content-number : (t u : List ℕ) → content t ≡ content u → transform_number t ≡ transform_number u
unfolding transform_number
content-number t u h =
    ap (λ (n : ℕ). record { 0 = n }) (sym (get_or-drop 4 t 0 0) ∙ ap (λ (l : List ℕ). get_or l 0 0) h ∙ get_or-drop 4 u 0 0)

content-id : (t u : List ℕ) → content t ≡ content u → transform_id t ≡ transform_id u
unfolding transform_id
content-id t u h = sym (get_or-drop 4 t 1 0) ∙ ap (λ (l : List ℕ). get_or l 1 0) h ∙ get_or-drop 4 u 1 0

content-attributes : (t u : List ℕ) → content t ≡ content u → attributes_of t ≡ attributes_of u
unfolding attributes_of
content-attributes t u h = sym (drop-drop 4 4 t) ∙ ap (drop 4) h ∙ drop-drop 4 4 u

-- ---- a proposal q of the reply beside the offered one p

-- by kinds: nothing differs in any of them
record Unaltered (p q : List ℕ) : Type 0 where
  count : several_transforms q ≡ Nothing
  number : transform_not_offered p q ≡ Nothing
  id : other_id p q ≡ Nothing
  attributes : other_attributes p q ≡ Nothing

module _ (x y : ℕ) (p q : List ℕ) (offered : Item x p) (replied : Item y q) where
  replied-lawful : LawfulTransform y (transform 0 q)
  unfolding transform_count
  replied-lawful = transform-lawful y q replied 0 (omega (arith, replied.some))

  one-transform : several_transforms q ≡ Nothing → transform_count q ≡ 1
  unfolding several_transforms
  one-transform h = by_test (eqb (transform_count q) 1) (λ e. eqb-true _ _ e) (λ e. let bad = rw e at h in never (cc))

  there : transform_not_offered p q ≡ Nothing → length (offered_transform p q) ≡ 0 → ⊥
  unfolding transform_not_offered
  there h z = let bad = rw (eq-eqb (length (offered_transform p q)) 0 z) at h in never (cc)

  same_id : other_id p q ≡ Nothing → transform_id (transform 0 q) ≡ transform_id (offered_transform p q)
  unfolding other_id replied_transform
  same_id h = by_test (eqb (transform_id (transform 0 q)) (transform_id (offered_transform p q))) (λ e. eqb-true _ _ e) (λ e. let bad = rw e at h in never (cc))

  same-attributes : other_attributes p q ≡ Nothing → attributes_of (transform 0 q) ≡ attributes_of (offered_transform p q)
  unfolding other_attributes replied_transform
  same-attributes h =
      by_test (equal (attributes_of (transform 0 q)) (attributes_of (offered_transform p q))) (λ e. equal-true _ _ e) (λ e. let bad = rw e at h in never (cc))

  unaltered-repeats : protocol q ≡ protocol p → Unaltered p q → RepeatsProposal p q
  unfolding offered_transform replied_transform
  unaltered-repeats same u =
      let f = transform-found x p offered (transform_number (transform 0 q)) (there u.number) in
      record {
        same-protocol = same;
        one-transform = one-transform u.count;
        i = f.i;
        offered = f.offered;
        unaltered = same-content y x (transform 0 q) (transform f.i p) replied-lawful (transform-lawful x p offered f.i f.offered)
            (sym f.its_number)
            (same_id u.id ∙ ap transform_id f.is)
            (same-attributes u.attributes ∙ ap attributes_of f.is);
      }

  module _ (r : RepeatsProposal p q) where
    -- the number of the reply's transform finds the offered one
    pub finds : offered_transform p q ≡ transform r.i p
    unfolding offered_transform replied_transform
    finds = rw (content-number (transform 0 q) (transform r.i p) r.unaltered) (transform-by-number x p offered r.i r.offered)

    repeats-unaltered : Unaltered p q
    unfolding several_transforms transform_not_offered other_id other_attributes replied_transform
    repeats-unaltered =
        let l = transform-lawful x p offered r.i r.offered in
        let some : length (transform r.i p) ≡ 0 → ⊥ = λ z. omega (arith, l.long) in
        record {
          count = rw (eq-eqb (transform_count q) 1 r.one-transform);
          number = rw (finds, ne_eqb (length (transform r.i p)) 0 some);
          id = rw (finds, eq-eqb _ _ (content-id (transform 0 q) (transform r.i p) r.unaltered));
          attributes = rw (finds, content-attributes (transform 0 q) (transform r.i p) r.unaltered, equal-same (attributes_of (transform r.i p)));
        }

-- ---- the reply's set s beside an offered one

pub last-second : (s : List ℕ) → proposal_count s ≡ 2 → last s ≡ proposal 1 s
unfolding last
last-second s h = rw h

module _ (x y : ℕ) (o s : List ℕ) (offered : LawfulSet x o) (replied : LawfulSet y s) where
  abbrev first_two : Type 0
  first_two = Unaltered (proposal 0 o) (proposal 0 s) × Unaltered (last o) (last s)

  kinds_both : transforms_differ o s ≡ Nothing → first_two
  unfolding transforms_differ
  kinds_both h =
      let d = neither_differs _ _ h in
      let c = neither_differs _ _ d.0 in
      let b = neither_differs _ _ c.0 in
      let count = neither_differs _ _ b.0 in
      let number = neither_differs _ _ b.1 in
      let id = neither_differs _ _ c.1 in
      let attributes = neither_differs _ _ d.1 in (
        record { count = count.0; number = number.0; id = id.0; attributes = attributes.0 },
        record { count = count.1; number = number.1; id = id.1; attributes = attributes.1 },
      )

  both_kinds : first_two → transforms_differ o s ≡ Nothing
  unfolding transforms_differ
  both_kinds b =
      nothing_differs _ _
      (nothing_differs _ _
      (nothing_differs _ _ (nothing_differs _ _ b.0.count b.1.count) (nothing_differs _ _ b.0.number b.1.number))
      (nothing_differs _ _ b.0.id b.1.id))
      (nothing_differs _ _ b.0.attributes b.1.attributes)

  record Ordered : Type 0 where
    as_many : proposal_count o ≡ proposal_count s
    first : protocol (proposal 0 o) ≡ protocol (proposal 0 s)
    second : protocol (last o) ≡ protocol (last s)

  protocols-ordered : protocols_differ o s ≡ Nothing → Ordered
  unfolding protocols_differ same_protocols same_order
  protocols-ordered h =
      by_test (same_protocols o s)
      (λ e. by_test (same_order o s)
      (λ f.
      let counts = both (eqb (proposal_count o) (proposal_count s) && has_protocol o (protocol (proposal 0 s))) _ e in
      let same = both (eqb (proposal_count o) (proposal_count s)) _ counts.0 in
      let order = both (eqb (protocol (proposal 0 o)) (protocol (proposal 0 s))) _ f in
      record { as_many = eqb-true _ _ same.0; first = eqb-true _ _ order.0; second = eqb-true _ _ order.1 })
      (λ f. let bad = rw (e, f) at h in never (cc)))
      (λ e. let bad = rw e at h in never (cc))

  ordered-protocols : Ordered → protocols_differ o s ≡ Nothing
  unfolding protocols_differ same_protocols same_order has_protocol
  ordered-protocols e = rw (
    e.as_many,
    e.first,
    e.second,
    eq-eqb (proposal_count s) (proposal_count s) refl,
    eq-eqb (protocol (proposal 0 s)) (protocol (proposal 0 s)) refl,
    eq-eqb (protocol (last s)) (protocol (last s)) refl,
    or-true (eqb (protocol (proposal 0 s)) (protocol (last s))),
  )

  set-repeats : proposal_count s ≤ 2 → proposal_number (proposal 0 s) ≡ proposal_number (proposal 0 o) → protocols_differ o s ≡ Nothing →
      transforms_differ o s ≡ Nothing → RepeatsSet o s
  set-repeats few number protocols transforms = record { same_number = number; as_many = sym e.as_many; each = each }
    where
      e : Ordered
      e = protocols-ordered protocols

      each : (j : ℕ) → j < proposal_count s → RepeatsProposal (proposal j o) (proposal j s)
      each zero l =
          unaltered-repeats x y (proposal 0 o) (proposal 0 s) (offered.lawful 0 offered.some) (replied.lawful 0 l) (sym e.first) (kinds_both transforms).0
      each (suc zero) l =
          let here = last-second s (omega arith) in
          let there = last-second o (omega (arith, e.as_many)) in
          let second : protocol (proposal 1 o) ≡ protocol (proposal 1 s) = rw (there, here) at e.second in
          let kinds : Unaltered (proposal 1 o) (proposal 1 s) = rw (there, here) at (kinds_both transforms).1 in
          unaltered-repeats x y (proposal 1 o) (proposal 1 s) (offered.lawful 1 (omega (arith, e.as_many))) (replied.lawful 1 l) (sym second) kinds
      each (suc (suc j)) l = absurd (omega arith)

  module _ (r : RepeatsSet o s) where
    last-place : proposal_count s - 1 < proposal_count s
    last-place = omega (arith, replied.some)

    unaltered-at : (j : ℕ) → j < proposal_count s → Unaltered (proposal j o) (proposal j s)
    unaltered-at j l =
        repeats-unaltered x y (proposal j o) (proposal j s) (offered.lawful j (omega (arith, r.as_many))) (replied.lawful j l) (r.each j l)

    repeats-ordered : Ordered
    unfolding last
    repeats-ordered = record {
      as_many = sym r.as_many;
      first = sym (r.each 0 replied.some).same-protocol;
      second = rw (← r.as_many) (sym (r.each (proposal_count s - 1) last-place).same-protocol);
    }

    repeats-set : (protocols_differ o s ≡ Nothing) × (transforms_differ o s ≡ Nothing)
    unfolding last
    repeats-set = (
      ordered-protocols repeats-ordered,
      both_kinds (unaltered-at 0 replied.some, rw (← r.as_many) (unaltered-at (proposal_count s - 1) last-place)),
    )

-- ---- two bodies that read

module _ (x y : ℕ) (offer reply : List ℕ) (offer-reads : offer_code x offer ≡ 0) (reply_reads : offer_code y reply ≡ 0) where
  one_set : sets_differ offer reply ≡ Nothing → (set_count reply ≡ 1) × (length (offered_set offer reply) ≡ 0 → ⊥)
  unfolding sets_differ
  one_set h =
      by_test (eqb (set_count reply) 1)
      (λ e. by_test (eqb (length (offered_set offer reply)) 0) (λ f. let bad = rw (e, f) at h in never (cc)) (λ f. (eqb-true _ _ e, eqb-false _ _ f)))
      (λ e. let bad = rw e at h in never (cc))

  -- "accept the reply exactly if it repeats one offered set ..": where nothing differs it does
  pub nothing-repeats : bodies_differ offer reply ≡ Nothing → RepeatsOffer offer reply
  unfolding bodies_differ offered_set replied_number replied_set
  nothing-repeats h =
      let outer = neither_differs _ _ h in
      let inner = neither_differs _ _ outer.0 in
      let sets = one_set inner.0 in
      let found = set_found x offer offer-reads (proposal_number (proposal 0 (set 0 reply))) sets.1 in
      let a : 0 < set_count reply = omega (arith, sets.0) in
      record {
        one_set = sets.0;
        k = found.k;
        a_set = found.a_set;
        repeats = set-repeats x y (set found.k offer) (set 0 reply) (set-lawful x offer offer-reads found.k found.a_set)
            (set-lawful y reply reply_reads 0 a) (set-few y reply reply_reads 0 a) (sym found.its_number) (rw found.is at inner).1
            (rw found.is at outer).1;
      }

  module _ (r : RepeatsOffer offer reply) where
    pub some_reply : 0 < set_count reply
    some_reply = omega (arith, r.one_set)

    -- the number of the reply's set finds the set that it repeats
    pub set_finds : set_numbered (proposal_number (proposal 0 (set 0 reply))) offer ≡ set r.k offer
    set_finds = rw r.repeats.same_number (set-by-number x offer offer-reads r.k r.a_set)

    -- and where it does, nothing differs
    pub repeats-nothing : bodies_differ offer reply ≡ Nothing
    unfolding bodies_differ sets_differ offered_set replied_number replied_set
    repeats-nothing =
        let both-same =
        repeats-set x y (set r.k offer) (set 0 reply) (set-lawful x offer offer-reads r.k r.a_set) (set-lawful y reply reply_reads 0 some_reply)
        r.repeats in
        let some : length (set r.k offer) ≡ 0 → ⊥ = λ z. omega (arith, set-some x offer offer-reads r.k r.a_set) in
        nothing_differs _ _
        (nothing_differs _ _ (rw (set_finds, eq-eqb (set_count reply) 1 r.one_set, ne_eqb (length (set r.k offer)) 0 some)) (rw set_finds both-same.0))
        (rw set_finds both-same.1)

-- ---- the choice

-- set k of the offer, by line i, counted from 0
pub record ChoseSet (exchange : ℕ) (book offer : List ℕ) (number : ProposalNumber) (transforms : Transforms) : Type 0 where
  pub k : ℕ
  pub i : ℕ
  pub a_set : k < set_count offer
  pub suits : Passed exchange i book (set k offer)
  pub its_number : proposal_number (proposal 0 (set k offer)) ≡ number
  pub taken : transforms ≡ transforms_of exchange i book (set k offer)

module _ (exchange : ℕ) (book offer : List ℕ) (number : ProposalNumber) (line : LineNumber) (transforms : Transforms) where
  from_sets : {n : ℕ} {r : Choice} → Choosing exchange book offer n 0 r → n ≡ set_count offer → r ≡ choices.Chosen number line transforms →
      ChoseSet exchange book offer number transforms
  unfolding chosen
  from_sets (fourteen f) q e = never (cc)
  from_sets (chose j i h l b t f g) q e =
      let place : i + 1 - 1 ≡ i = omega arith in
      let taken : transforms_of exchange (i + 1 - 1) book (set j offer) ≡ transforms = cc in
      record {
        k = j;
        i = i;
        a_set = omega arith;
        suits = suits_passed exchange i book (set j offer) t;
        its_number = cc;
        taken = sym taken ∙ ap (λ (n : ℕ). transforms_of exchange n book (set j offer)) place;
      }

  pub chose_set : choose_from exchange book offer ≡ choices.Chosen number line transforms → ChoseSet exchange book offer number transforms
  chose_set e = from_sets (choosing exchange book offer) refl e

-- as many transforms are chosen as the set has proposals
one-chosen : (exchange i : ℕ) (book s : List ℕ) (t : TransformNumber) → One t ≡ transforms_of exchange i book s → proposal_count s ≡ 1
unfolding transforms_of
one-chosen exchange i book s t h = by_test (eqb (proposal_count s) 1) (λ e. eqb-true _ _ e) (λ e. let bad = rw e at h in never (cc))

two-chosen : (exchange i : ℕ) (book s : List ℕ) (t u : TransformNumber) → Two t u ≡ transforms_of exchange i book s → proposal_count s ≡ 1 → ⊥
unfolding transforms_of
two-chosen exchange i book s t u h e = let bad = rw (eq-eqb (proposal_count s) 1 e) at h in never (cc)

same-transform : (t : TransformNumber) (q : List ℕ) → other_transform t q ≡ Nothing → transform_number (transform 0 q) ≡ t
unfolding other_transform replied_transform
same-transform t q h =
    by_test (eqb (transform_number (transform 0 q)).0 t.0) (λ e. transform-number _ _ (eqb-true _ _ e)) (λ e. let bad = rw e at h in never (cc))

its_transform : (q : List ℕ) → other_transform (transform_number (transform 0 q)) q ≡ Nothing
unfolding other_transform replied_transform
its_transform q = rw (eq-eqb (transform_number (transform 0 q)).0 (transform_number (transform 0 q)).0 refl)

same_set : (number chosen : ProposalNumber) → other_set number chosen ≡ Nothing → number ≡ chosen
unfolding other_set
same_set number chosen h = by_test (eqb number.0 chosen.0) (λ e. proposal-number _ _ (eqb-true _ _ e)) (λ e. let bad = rw e at h in never (cc))

module _ (x y : ℕ) (book offer reply : List ℕ) (offer-reads : offer_code x offer ≡ 0) (reply_reads : offer_code y reply ≡ 0) (r : RepeatsOffer offer reply)
  where
    abbrev s : List ℕ
    s = set 0 reply

    one_or_two : (0 < proposal_count s) × (proposal_count s ≤ 2)
    one_or_two =
        let a = some_reply x y offer reply offer-reads reply_reads r in
        ((set-lawful y reply reply_reads 0 a).some, set-few y reply reply_reads 0 a)

    -- what is chosen has the number of the reply's set, so it is the set that the reply repeats
    module _ (transforms : Transforms) (c : ChoseSet x book offer (proposal_number (proposal 0 s)) transforms) where
      as_many-chosen : proposal_count s ≡ proposal_count (set c.k offer)
      as_many-chosen =
          let by_number = set-by-number x offer offer-reads c.k c.a_set in
          r.repeats.as_many ∙ ap proposal_count (sym (set_finds x y offer reply offer-reads reply_reads r) ∙ rw c.its_number at by_number)

    takes_from : (transforms : Transforms) → ChoseSet x book offer (proposal_number (proposal 0 s)) transforms → other_transforms s transforms ≡ Nothing → Takes s transforms
    unfolding other_transforms
    takes_from (One t) c h =
        let count = as_many-chosen (One t) c ∙ one-chosen x c.i book (set c.k offer) t c.taken in
        rw (← same-transform t (proposal 0 s) h) (one count)
    takes_from (Two t u) c h =
        let several : proposal_count s ≡ 1 → ⊥ = λ e. two-chosen x c.i book (set c.k offer) t u c.taken (sym (as_many-chosen (Two t u) c) ∙ e) in
        let count : proposal_count s ≡ 2 = omega (arith, one_or_two.0, one_or_two.1) in
        let each = neither_differs _ _ h in
        let second = (rw (last-second s count) at each).1 in
        rw (← same-transform t (proposal 0 s) each.0, ← same-transform u (proposal 1 s) second) (two count)

    differs_choice : (choice : Choice) → choice ≡ choose_from x book offer → choice_differs reply choice ≡ Nothing → IsChoice x book offer reply
    unfolding choice_differs replied_number replied_set
    differs_choice (choices.Refused number) e h = never (cc)
    differs_choice (choices.Chosen number line transforms) e h =
        let each = neither_differs _ _ h in
        let its_number : proposal_number (proposal 0 s) ≡ number = same_set _ _ each.0 in
        let chosen : choose_from x book offer ≡ choices.Chosen (proposal_number (proposal 0 s)) line transforms = rw its_number (sym e) in
        record { line = line; transforms = transforms; chosen = chosen; takes = takes_from transforms (chose_set x book offer _ line transforms chosen) each.1 }

    -- "also only if it is the choice document 01 makes": where nothing differs from it, the reply is that
    pub nothing-chosen : choice_differs reply (choose_from x book offer) ≡ Nothing → IsChoice x book offer reply
    nothing-chosen h = differs_choice (choose_from x book offer) refl h

-- and where it is that, nothing differs
takes-nothing : (s : List ℕ) (transforms : Transforms) → Takes s transforms → other_transforms s transforms ≡ Nothing
unfolding other_transforms
takes-nothing s transforms (one count) = its_transform (proposal 0 s)
takes-nothing s transforms (two count) = nothing_differs _ _ (its_transform (proposal 0 s)) (rw (last-second s count) (its_transform (proposal 1 s)))

pub chosen-nothing : (x : ℕ) (book offer reply : List ℕ) → IsChoice x book offer reply → choice_differs reply (choose_from x book offer) ≡ Nothing
unfolding choice_differs replied_number replied_set other_set
chosen-nothing x book offer reply c =
    let number : ProposalNumber = proposal_number (proposal 0 (set 0 reply)) in
    rw c.chosen (nothing_differs _ _ (rw (eq-eqb number.0 number.0 refl)) (takes-nothing (set 0 reply) c.transforms c.takes))

-- ---- two replies to one offer

-- where their sets have one number they have the same proposals, and where two transforms have one number these are the same
module _ (x y z : ℕ) (offer a b : List ℕ) (offer-reads : offer_code x offer ≡ 0) (a-reads : offer_code y a ≡ 0) (b-reads : offer_code z b ≡ 0)
    (r : RepeatsOffer offer a) (q : RepeatsOffer offer b) (same : proposal_number (proposal 0 (set 0 a)) ≡ proposal_number (proposal 0 (set 0 b))) where
  same-offered : set r.k offer ≡ set q.k offer
  same-offered =
      sym (set_finds x y offer a offer-reads a-reads r) ∙ ap (λ (n : ProposalNumber). set_numbered n offer) same ∙ set_finds x z offer b offer-reads b-reads q

  pub same_count : proposal_count (set 0 a) ≡ proposal_count (set 0 b)
  same_count = r.repeats.as_many ∙ ap proposal_count same-offered ∙ sym q.repeats.as_many

  module _ (j : ℕ) (l : j < proposal_count (set 0 a)) where
    in_other : j < proposal_count (set 0 b)
    in_other = omega (arith, same_count)

    pub same-protocols : protocol (proposal j (set 0 a)) ≡ protocol (proposal j (set 0 b))
    same-protocols =
        (r.repeats.each j l).same-protocol ∙ ap (λ (s : List ℕ). protocol (proposal j s)) same-offered ∙ sym (q.repeats.each j in_other).same-protocol

    pub same-transforms : transform_number (transform 0 (proposal j (set 0 a))) ≡ transform_number (transform 0 (proposal j (set 0 b))) →
        content (transform 0 (proposal j (set 0 a))) ≡ content (transform 0 (proposal j (set 0 b)))
    same-transforms e =
        let p : List ℕ = proposal j (set r.k offer) in
        let its = r.repeats.each j l in
        let other = q.repeats.each j in_other in
        let item = (set-lawful x offer offer-reads r.k r.a_set).lawful j (omega (arith, r.repeats.as_many)) in
        let moved : content (transform 0 (proposal j (set 0 b))) ≡ content (transform other.i p) = rw same-offered other.unaltered in
        let within : other.i < transform_count p = rw same-offered other.offered in
        let number = sym (content-number _ _ its.unaltered) ∙ e ∙ content-number _ _ moved in
        let found = sym (transform-by-number x p item its.i its.offered) ∙ ap (λ (n : TransformNumber). transform_numbered n p) number
        ∙ transform-by-number x p item other.i within in
        its.unaltered ∙ ap content found ∙ sym moved
