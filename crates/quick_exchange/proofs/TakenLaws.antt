-- What the ends take of each other's messages: message 1 as it is delivered, the answer that the responder writes to it, and that the
-- initiator takes this answer. "one set, its number, protocols, order and each transform as offered", "identities equal those sent".
use Prim.Native.Nat.{ℕ, ◌+◌, ◌-◌, ◌≤◌, ◌<◌}
use mathlib.Core.Path.{◌≡◌, refl, sym, ap, subst, ◌∙◌}
use mathlib.Core.Logic.{◌⊎◌, ⊎_elim}
use mathlib.Core.List.{List, ◌∷◌}
use mathlib.Core.Bool.{true, false, not, or-true}
use native.Mathlib.Omega.{arith}
use lib.ListN.{length, get_or, drop, length-take}
use lib.Seq.{drop-cons}
use lib.Dec.{ltb, eqb}
use borrow.Author.Tests.{eq-eqb, le-ltb}
use Rattle.wire_read.specs.Wire.{number_at}
use Rattle.wire_write.specs.Put.{bytes_of, head, headed}
use Rattle.wire_read.proofs.Tests.{never, by_test, passed}
use Rattle.wire_read.proofs.Laws.{number-drop, number-take, equal-same}
use Rattle.wire_write.proofs.Laws.{number-bytes_of, length_bytes_of}
use Rattle.sa_proposals.specs.Proposals.{proposals_code, offer_code}
use Rattle.sa_proposals.specs.Proposals as proposals
use Rattle.sa_proposals.proofs.Written.{offer-right}
use Rattle.sa_fields.specs.Fields.{proposal_number, protocol, spi, transform_count, transform_number}
use Rattle.sa_sets.specs.Sets.{set, set_count, set_numbered}
use Rattle.sa_items.specs.Items.{proposal, proposal_count, transform}
use Rattle.sa_fields.specs.declared.ProposalNumber.{ProposalNumber}
use Rattle.sa_items.proofs.Laws.{transform-lawful}
use Rattle.sa_sets.proofs.Places.{LawfulSet, set-lawful, set-by-number}
use Rattle.policy_suits.specs.Suits.{lowest}
use Rattle.policy_choice.specs.Choice.{number_of, transforms_of, chosen, body_at, choose_from}
use Rattle.policy_reply.specs.Reply.{own_spi, set_reply, sa_of, spi_low, spis_low}
use Rattle.policy_lines.specs.declared.LineNumber.{LineNumber}
use Rattle.policy_choice.specs.declared.Transforms.{Transforms}
use Rattle.policy_choice.specs.declared.Transforms.TheVariants.{One, Two}
use Rattle.policy_choice.specs.Choice.{Choice}
use Rattle.policy_choice.specs.Choice.{Chosen}
use Rattle.policy_suiting.proofs.Laws.{Passed, suits_passed}
use Rattle.policy_choice.proofs.Laws.{Choosing, fourteen, chose, choosing}
use Rattle.policy_choice.proofs.ChoiceLaws.{taken-by-number}
use Rattle.sa_proposals.proofs.Known.{Known, isakmp, ah-of, esp-of, known_of}
use Rattle.policy_suiting.proofs.SuitLaws.{chosen_in, taken}
use Rattle.policy_reply.proofs.ReplyLaws.{Repeats, reply_repeats, reply_short}
use Rattle.quick_write.specs.Messages.{book_of, offer_of, proposals_of, longer, message_one, message_two, lines}
use Rattle.quick_shape.specs.Shapes.{alike, shape_of}
use Rattle.quick_taken.specs.Taken.{proposal_taken, set_taken, replied_set, offered_set, identities_same, taken_code, agreed_two}
use Rattle.quick_agreed.specs.Agreed.{spis_of, transforms_in, spi_for, own_spis}
use Rattle.quick_deliver.specs.Deliver.{identity_at}
use Rattle.quick_end.specs.declared.Own.{Own}
use Rattle.quick_shape.proofs.Laws.{alike_same}
use Rattle.quick_exchange.specs.Exchange.{SameProposal, SameProposals, GivenFor, alone, both}
use Rattle.quick_exchange.proofs.MessageShapes.{payloads_with, sa_body, Longer, Answered, reply_to, Fit, Identities}
use Rattle.quick_exchange.proofs.MessageLaws.{longer-reads}
use Rattle.quick_exchange.proofs.OfferLaws.{Offers, OfferedSet, body-sets, esp-alone, ah-and-esp, offers_each, one_or_two, offer-reads, offer-short, offer-count, offer-line}

-- ---- the body of an SA payload

module _ (ps : List ℕ) where
  sa_body_lem : (next : ℕ) → drop 4 (sa_of next ps) ≡ sa_body ps
  unfolding sa_of headed head bytes_of
  sa_body_lem next = refl

  sa_long : 8 ≤ length (sa_body ps)
  unfolding bytes_of
  sa_long = omega arith

  sa_length : length ps ≤ length (sa_of 0 ps)
  unfolding sa_of headed head bytes_of
  sa_length = omega arith

  -- it reads where its proposals do, and they where it does
  body_reads : proposals_code 16 32 0 proposals.none ps ≡ 0 → offer_code 32 (sa_body ps) ≡ 0
  unfolding number_at bytes_of
  body_reads h = offer-right 32 (sa_body ps) sa_long refl refl h

  proposals-read : offer_code 32 (sa_body ps) ≡ 0 → proposals_code 16 32 0 proposals.none ps ≡ 0
  unfolding offer_code
  proposals-read h =
      let s : List ℕ = sa_body ps in
      let long = passed (ltb (length s) 8) 15 _ (λ z. omega arith) h in
      let doi = passed (not (eqb (number_at 4 s 0) 1)) 2 _ (λ z. omega arith) long.1 in
      let situation = passed (not (eqb (number_at 4 s 4) 1)) 3 _ (λ z. omega arith) doi.1 in
      (rw (body-sets ps) at situation).1

-- ---- a choice from a body that reads

-- set k and line i, counted from 0; the number of the set finds it
record ChoseFrom (book body : List ℕ) (number : ProposalNumber) (transforms : Transforms) : Type 0 where
  k : ℕ
  i : ℕ
  a_set : k < set_count body
  suits : Passed 32 i book (set k body)
  lawful : LawfulSet 32 (set k body)
  its_number : proposal_number (proposal 0 (set k body)) ≡ number
  by_number : set_numbered number body ≡ set k body
  taken : transforms ≡ transforms_of 32 i book (set k body)

module _ (book body : List ℕ) (reads : offer_code 32 body ≡ 0) (number : ProposalNumber) (line : LineNumber) (transforms : Transforms) where
  from_sets : {n : ℕ} {r : Choice} → Choosing 32 book body n 0 r → n ≡ set_count body → r ≡ Chosen number line transforms → ChoseFrom book body number transforms
  unfolding chosen
  from_sets (fourteen f) q e = never (cc)
  from_sets (chose j i h l b t f g) q e =
      let a_set : j < set_count body = omega arith in
      let same : proposal_number (proposal 0 (set j body)) ≡ number = cc in
      let place : i + 1 - 1 ≡ i = omega arith in
      let taken : transforms_of 32 (i + 1 - 1) book (set j body) ≡ transforms = cc in
      record {
        k = j;
        i = i;
        a_set = a_set;
        suits = suits_passed 32 i book (set j body) t;
        lawful = set-lawful 32 body reads j a_set;
        its_number = same;
        by_number = rw (← same) (set-by-number 32 body reads j a_set);
        taken = sym taken ∙ ap (λ (n : ℕ). transforms_of 32 n book (set j body)) place;
      }

  chose_from : choose_from 32 book body ≡ Chosen number line transforms → ChoseFrom book body number transforms
  chose_from e = from_sets (choosing 32 book body) refl e

-- ---- own SPIs

module _ (ah esp : ℕ) (high-ah : 256 ≤ ah) (high-esp : 256 ≤ esp) where
  spi-high : (wanted : ℕ) → spi_low ah esp wanted ≡ false
  unfolding spi_low
  spi-high wanted =
      by_test (eqb wanted 2)
      (λ a. by_test (eqb wanted 3) (λ b. rw (a, b, le-ltb ah 256 high-ah, le-ltb esp 256 high-esp)) (λ b. rw (a, b, le-ltb ah 256 high-ah)))
      (λ a. by_test (eqb wanted 3) (λ b. rw (a, b, le-ltb esp 256 high-esp)) (λ b. rw (a, b)))

  pub spis_high : (t : Transforms) (s : List ℕ) → spis_low ah esp t s ≡ false
  unfolding spis_low
  spis_high (One t) s = spi-high (protocol (proposal 0 s))
  spis_high (Two t u) s = rw (spi-high (protocol (proposal 0 s)), spi-high (protocol (proposal 1 s)))

-- a proposal whose SPI is the four bytes of x
spi-number : (q : List ℕ) (x : ℕ) → x < 4294967296 → spi q ≡ bytes_of 4 x → number_at 4 q 8 ≡ x
unfolding spi
spi-number q x small e =
    let n : ℕ = get_or q 6 0 in
    let room : 4 ≤ n = omega (arith, length-take n (drop 8 q), ap length e, length_bytes_of 4 x) in
    sym (number-drop 4 8 q 0) ∙ sym (number-take 4 n (drop 8 q) 0 (omega arith)) ∙ ap (λ (l : List ℕ). number_at 4 l 0) e ∙ number-bytes_of 4 x (omega arith)

own-number : {exchange wanted : ℕ} → Known exchange wanted → exchange ≡ 32 → (ah esp : ℕ) → ah < 4294967296 → esp < 4294967296 → (q : List ℕ) →
    spi q ≡ own_spi ah esp wanted →
    number_at 4 q 8 ≡ spi_for ah esp wanted
unfolding own_spi spi_for
own-number isakmp h ah esp a e q is = absurd (omega arith)
own-number ah-of h ah esp a e q is = spi-number q ah a is
own-number esp-of h ah esp a e q is = spi-number q esp e is

-- ---- the set of a reply, beside the set that it answers

-- its bytes as offered, the first of which is 0
same_bytes : (t : List ℕ) → 1 ≤ length t → get_or t 0 0 ≡ 0 → 0 ∷ drop 1 t ≡ t
same_bytes t some last = let whole : drop 0 t ≡ get_or t 0 0 ∷ drop 1 t = drop-cons t 0 0 (omega arith) in sym (rw last at whole)

-- in each proposal the one transform is taken, and the own SPI stands
record Taken (ah esp : ℕ) (p q : List ℕ) : Type 0 where
  same-protocol : protocol q ≡ protocol p
  one-transform : transform_count q ≡ 1
  same-transform : transform 0 q ≡ transform 0 p
  own-spi : number_at 4 q 8 ≡ spi_for ah esp (protocol p)

proposal-taken : (ah esp : ℕ) (p q : List ℕ) → Taken ah esp p q → proposal_taken q p ≡ true
unfolding proposal_taken
proposal-taken ah esp p q t = rw (t.same-protocol, t.one-transform, t.same-transform, eq-eqb (protocol p) (protocol p) refl, equal-same (transform 0 p))

-- a set with the own SPI in each proposal, for the protocols of set s
own_spis_lem : (ah esp : ℕ) (s r : List ℕ) → proposal_count r ≡ proposal_count s → (proposal_count s ≡ 1) ⊎ (proposal_count s ≡ 2) →
    ((j : ℕ) → j < proposal_count s → number_at 4 (proposal j r) 8 ≡ spi_for ah esp (protocol (proposal j s))) →
    spis_of r ≡ own_spis ah esp s
unfolding spis_of own_spis
own_spis_lem ah esp s r as_many few each =
    ⊎_elim (λ e. rw (as_many, e, each 0 (omega arith))) (λ e. rw (as_many, e, each 0 (omega arith), each 1 (omega arith))) few

-- so they are those that were given, where the set is one of the offer
given_for : {a b : ℕ} {s : List ℕ} → OfferedSet a b s → (ah esp : ℕ) → GivenFor ah esp s (own_spis ah esp s)
unfolding own_spis spi_for
given_for (esp-alone one is o) ah esp = rw (one, is) (alone one is)
given_for (ah-and-esp two is other o p) ah esp = rw (two, is, other) (both two is other)

module _ (ah esp : ℕ) (s r : List ℕ) (as_many : proposal_count r ≡ proposal_count s) (few : (proposal_count s ≡ 1) ⊎ (proposal_count s ≡ 2))
    (each : (j : ℕ) → j < proposal_count s → Taken ah esp (proposal j s) (proposal j r)) where
  set-taken : set_taken r s ≡ true
  unfolding set_taken
  set-taken =
      let first : proposal_taken (proposal 0 r) (proposal 0 s) ≡ true = proposal-taken ah esp _ _ (each 0 (⊎_elim (λ e. omega arith) (λ e. omega arith) few)) in
      ⊎_elim
      (λ e. rw (first, as_many, eq-eqb (proposal_count s) (proposal_count s) refl, eq-eqb (proposal_count s) 1 e))
      (λ e. rw (first, as_many, eq-eqb (proposal_count s) (proposal_count s) refl, proposal-taken ah esp _ _ (each 1 (omega arith)))
      (or-true (eqb (proposal_count s) 1)))
      few

  -- the transforms are those that the choice named
  same-transforms : (i : ℕ) (book : List ℕ) → ((j : ℕ) → j < proposal_count s → lowest 32 i book (proposal j s) - 1 ≡ 0) →
      transforms_in r ≡ transforms_of 32 i book s
  unfolding transforms_in transforms_of number_of
  same-transforms i book place =
      ⊎_elim
      (λ e. rw (as_many, e, (each 0 (omega arith)).same-transform, place 0 (omega arith)))
      (λ e. rw (as_many, e, (each 0 (omega arith)).same-transform, (each 1 (omega arith)).same-transform, place 0 (omega arith), place 1 (omega arith)))
      few

-- ---- "identities equal those sent"

module _ (sent m first second : List ℕ) (shape-sent : shape_of sent ≡ payloads_with first) (shape-m : shape_of m ≡ payloads_with first) where
  same_identities : identity_at 3 sent ≡ first → identity_at 4 sent ≡ second → identity_at 3 m ≡ first → identity_at 4 m ≡ second →
      identities_same (shape_of m) sent m ≡ true
  unfolding identities_same identity_at payloads_with
  same_identities a b c d =
      by_test (eqb (length first) 0)
      (λ e. rw (shape-m, shape-sent, e))
      (λ e.
      let five-sent : shape_of sent ≡ 5 = rw e at shape-sent in
      let five : shape_of m ≡ 5 = rw e at shape-m in
      let a2 : body_at 3 sent ≡ first = rw five-sent at a in
      let b2 : body_at 4 sent ≡ second = rw five-sent at b in
      let c2 : body_at 3 m ≡ first = rw five at c in
      let d2 : body_at 4 m ≡ second = rw five at d in
      rw (five, five-sent, a2, b2, c2, d2, equal-same first, equal-same second))

-- ---- message 1

pub one-reads : (one : Own) → Fit one → 0 < lines (book_of one) → (id : ℕ) → 0 < id → id < 4294967296 → (first second : List ℕ) → Identities first second →
    (g : List ℕ) → alike g (message_one one id first second) ≡ true → Longer one id (offer_of one) first second g
unfolding message_one proposals_of
one-reads one fit some id some_id small-id first second ids g h =
    longer-reads one id (offer_of one) first second fit some_id small-id ids (offer-reads one fit some) (offer-short one fit) g h

pub choice-alike : (one : Own) → Fit one → 0 < lines (book_of one) → (id : ℕ) → 0 < id → id < 4294967296 → (first second : List ℕ) → Identities first second →
    (g : List ℕ) → alike g (message_one one id first second) ≡ true → body_at 1 g ≡ body_at 1 (message_one one id first second)
choice-alike one fit some id some_id small-id first second ids g h =
    let m : List ℕ = message_one one id first second in
    (one-reads one fit some id some_id small-id first second ids g h).sa ∙ sym (one-reads one fit some id some_id small-id first second ids m (alike_same m)).sa

-- ---- the responder's answer

module _ (one two : Own) (id : ℕ) (first second g : List ℕ) (number : ProposalNumber) (line : LineNumber) (transforms : Transforms)
    (answered : Answered one two id first second g number line transforms) where
  abbrev body : List ℕ
  body = sa_body (offer_of one)

  got : Longer one id (offer_of one) first second g
  got = one-reads one answered.fit_one answered.some id answered.some_id answered.small-id first second answered.identities g answered.from

  sent : Longer one id (offer_of one) first second (message_one one id first second)
  sent =
      let m : List ℕ = message_one one id first second in
      one-reads one answered.fit_one answered.some id answered.some_id answered.small-id first second answered.identities m (alike_same m)

  choice : ChoseFrom (book_of two) body number transforms
  choice =
      let chosen : choose_from 32 (book_of two) body ≡ Chosen number line transforms = ap (choose_from 32 (book_of two)) (sym got.sa) ∙ answered.chosen in
      chose_from (book_of two) body (body_reads (offer_of one) (offer-reads one answered.fit_one answered.some)) number line transforms chosen

  -- the set that is answered
  abbrev s : List ℕ
  s = set choice.k body

  by_number : set_numbered number (body_at 1 g) ≡ s
  by_number = ap (set_numbered number) got.sa ∙ choice.by_number

  -- the reply's proposals
  abbrev ps : List ℕ
  ps = set_reply two.ah two.esp transforms s

  abbrev reply : List ℕ
  reply = sa_body ps

  low : spis_low two.ah two.esp (transforms_of 32 choice.i (book_of two) s) s ≡ false
  low = spis_high two.ah two.esp answered.fit_two.ah.0 answered.fit_two.esp.0 (transforms_of 32 choice.i (book_of two) s) s

  same_reply : set_reply two.ah two.esp (transforms_of 32 choice.i (book_of two) s) s ≡ ps
  same_reply = ap (λ (t : Transforms). set_reply two.ah two.esp t s) (sym choice.taken)

  repeats : Repeats 32 two.ah two.esp s (λ j. chosen_in 32 choice.i (book_of two) (proposal j s)) reply
  repeats =
      let r =
      reply_repeats 32 choice.i two.ah two.esp (book_of two) s choice.lawful choice.suits answered.fit_two.ah.1
      answered.fit_two.esp.1 low 0 in
      rw (same_reply, sa_body_lem ps 0) at r

  short : length ps ≤ 576
  short =
      let h =
      reply_short 32 choice.i two.ah two.esp (book_of two) s choice.lawful choice.suits answered.fit_two.ah.1
      answered.fit_two.esp.1 low 0 in
      omega (arith, sa_length ps, ap (λ (l : List ℕ). length (sa_of 0 l)) same_reply)

  from_offer : OfferedSet one.ah one.esp s
  from_offer = offer-line one answered.fit_one choice.k (omega (arith, choice.a_set, offer-count one answered.fit_one answered.some))

  few : (proposal_count s ≡ 1) ⊎ (proposal_count s ≡ 2)
  few = one_or_two from_offer

  -- "each transform as offered": an offered proposal has one transform, so that it is the chosen one
  module _ (j : ℕ) (h : j < proposal_count s) where
    offered : Offers one.ah one.esp (proposal j s)
    offered = offers_each from_offer j h

    first-place : lowest 32 choice.i (book_of two) (proposal j s) - 1 ≡ 0
    first-place =
        let some = taken 32 choice.i (book_of two) (proposal j s) (choice.lawful.lawful j h) (choice.suits.each j h) in
        omega (arith, offered.one-transform, some.0)

    proposal-answers : Taken two.ah two.esp (proposal j s) (proposal j (set 0 reply))
    unfolding protocol
    proposal-answers =
        let p : List ℕ = proposal j s in
        let item = choice.lawful.lawful j h in
        let a = repeats.each j h in
        let long = (transform-lawful 32 p item 0 (omega (arith, offered.one-transform))).long in
        let whole = same_bytes (transform 0 p) (omega arith) offered.last in
        record {
          same-protocol = a.same-protocol;
          one-transform = a.one-transform;
          same-transform = a.same-transform ∙ ap (λ (k : ℕ). 0 ∷ drop 1 (transform k p)) first-place ∙ whole;
          own-spi = own-number (known_of 32 (get_or p 5 0) item.known) refl two.ah two.esp answered.fit_two.ah.1 answered.fit_two.esp.1
              (proposal j (set 0 reply)) a.own-spi;
        }

    offered-spi : number_at 4 (proposal j s) 8 ≡ spi_for one.ah one.esp (protocol (proposal j s))
    unfolding protocol
    offered-spi =
        let p : List ℕ = proposal j s in
        own-number (known_of 32 (get_or p 5 0) (choice.lawful.lawful j h).known) refl one.ah one.esp answered.fit_one.ah.1
        answered.fit_one.esp.1 p offered.own-spi

    -- its chosen transform is the one of the number that the choice has for it
    same-proposal : SameProposal (number_of (lowest 32 choice.i (book_of two) (proposal j s)) (proposal j s)) (proposal j (set 0 reply)) (proposal j s)
    unfolding number_of
    same-proposal =
        let p : List ℕ = proposal j s in
        let same = proposal-answers.same-transform in
        let place = ap (λ (k : ℕ). transform k p) first-place in
        let by-its-number = taken-by-number 32 choice.i (book_of two) p (choice.lawful.lawful j h) (choice.suits.each j h) in
        record {
          same_number = (repeats.each j h).same_number;
          same-protocol = proposal-answers.same-protocol;
          one-transform = proposal-answers.one-transform;
          its_number = ap transform_number (same ∙ sym place);
          same-transform = same ∙ sym place ∙ sym by-its-number;
        }

  same-proposals : SameProposals transforms (set 0 reply) s
  unfolding transforms_of
  same-proposals =
      subst (λ (t : Transforms). SameProposals t (set 0 reply) s) (sym choice.taken)
      (⊎_elim
      (λ e. rw e (repeats.as_many ∙ e, e, same-proposal 0 (omega arith)))
      (λ e. rw e (repeats.as_many ∙ e, e, same-proposal 0 (omega arith), same-proposal 1 (omega arith)))
      few)

  spis_of-offer : spis_of s ≡ own_spis one.ah one.esp s
  spis_of-offer = own_spis_lem one.ah one.esp s s refl few offered-spi

  reply_number : proposal_number (proposal 0 (set 0 reply)) ≡ number
  reply_number = (repeats.each 0 choice.lawful.some).same_number ∙ choice.its_number

  -- ---- message 2

  module _ (n : List ℕ) (from : alike n (reply_to two g number transforms) ≡ true) where
    answer : Longer two id ps first second n
    unfolding message_two proposals_of
    answer =
        let h : alike n (longer two id ps first second) ≡ true = rw (by_number, got.framed.its_id, got.identity_one, got.identity_two) at from in
        longer-reads two id ps first second answered.fit_two answered.some_id answered.small-id answered.identities
        (proposals-read ps repeats.readable) short n h

    replied-is : replied_set n ≡ set 0 reply
    unfolding replied_set
    replied-is = ap (set 0) answer.sa

    offered-is : offered_set (message_one one id first second) n ≡ s
    unfolding offered_set
    offered-is = rw (replied-is, reply_number, sent.sa) choice.by_number

    answer-taken : taken_code (shape_of n) (message_one one id first second) n ≡ 0
    unfolding taken_code
    answer-taken =
        let whole : set_taken (set 0 reply) s ≡ true = set-taken two.ah two.esp s (set 0 reply) repeats.as_many few proposal-answers in
        let same =
        same_identities (message_one one id first second) n first second sent.shape answer.shape sent.identity_one sent.identity_two
        answer.identity_one answer.identity_two in
        rw (replied-is, offered-is, answer.sa, repeats.alone, whole, same)

    answer_agreed : agreed_two (message_one one id first second) n
        ≡ record { set = number; transforms = transforms; initiator = spis_of s; responder = own_spis two.ah two.esp s }
    unfolding agreed_two
    answer_agreed =
        let transforms-are : transforms_in (set 0 reply) ≡ transforms =
        same-transforms two.ah two.esp s (set 0 reply) repeats.as_many few proposal-answers choice.i (book_of two) first-place
        ∙ sym choice.taken in
        let spis-are : spis_of (set 0 reply) ≡ own_spis two.ah two.esp s =
        own_spis_lem two.ah two.esp s (set 0 reply) repeats.as_many few (λ j h. (proposal-answers j h).own-spi) in
        rw (replied-is, offered-is, reply_number, transforms-are, spis-are)

pub two-reads : (one two : Own) (id : ℕ) (first second g : List ℕ) (number : ProposalNumber) (line : LineNumber) (transforms : Transforms) →
    Answered one two id first second g number line transforms → (n : List ℕ) → alike n (reply_to two g number transforms) ≡ true →
    Longer two id (set_reply two.ah two.esp transforms (set_numbered number (body_at 1 g))) first second n
two-reads one two id first second g number line transforms answered n from =
    rw (by_number one two id first second g number line transforms answered) (answer one two id first second g number line transforms answered n from)

pub two-taken : (one two : Own) (id : ℕ) (first second g : List ℕ) (number : ProposalNumber) (line : LineNumber) (transforms : Transforms) →
    Answered one two id first second g number line transforms → (n : List ℕ) → alike n (reply_to two g number transforms) ≡ true →
    taken_code (shape_of n) (message_one one id first second) n ≡ 0
two-taken one two id first second g number line transforms answered n from = answer-taken one two id first second g number line transforms answered n from

pub two_agreed : (one two : Own) (id : ℕ) (first second g : List ℕ) (number : ProposalNumber) (line : LineNumber) (transforms : Transforms) →
    Answered one two id first second g number line transforms → (n : List ℕ) → alike n (reply_to two g number transforms) ≡ true →
    agreed_two (message_one one id first second) n
    ≡ record {
      set = number;
      transforms = transforms;
      initiator = spis_of (set_numbered number (body_at 1 g));
      responder = own_spis two.ah two.esp (set_numbered number (body_at 1 g));
    }
two_agreed one two id first second g number line transforms answered n from =
    rw (by_number one two id first second g number line transforms answered) (answer_agreed one two id first second g number line transforms answered n from)

-- what message 2 takes is what was chosen, byte for byte
pub two-content : (one two : Own) (id : ℕ) (first second g : List ℕ) (number : ProposalNumber) (line : LineNumber) (transforms : Transforms) →
    Answered one two id first second g number line transforms → (n : List ℕ) → alike n (reply_to two g number transforms) ≡ true →
    (set_count (body_at 1 n) ≡ 1) × SameProposals transforms (set 0 (body_at 1 n)) (set_numbered number (body_at 1 g))
two-content one two id first second g number line transforms answered n from =
    rw (by_number one two id first second g number line transforms answered, (answer one two id first second g number line transforms answered n from).sa)
    ((repeats one two id first second g number line transforms answered).alone, same-proposals one two id first second g number line transforms answered)

-- the SPIs of the chosen set, and the own ones for it, are those that the two ends were given
pub two_spis : (one two : Own) (id : ℕ) (first second g : List ℕ) (number : ProposalNumber) (line : LineNumber) (transforms : Transforms) →
    Answered one two id first second g number line transforms →
    GivenFor one.ah one.esp (set_numbered number (body_at 1 g)) (spis_of (set_numbered number (body_at 1 g))) ×
    GivenFor two.ah two.esp (set_numbered number (body_at 1 g)) (own_spis two.ah two.esp (set_numbered number (body_at 1 g)))
two_spis one two id first second g number line transforms answered =
    let offer = from_offer one two id first second g number line transforms answered in
    rw (by_number one two id first second g number line transforms answered, spis_of-offer one two id first second g number line transforms answered)
    (given_for offer one.ah one.esp, given_for offer two.ah two.esp)
