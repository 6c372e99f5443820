-- Document 02, "Ten": "Given a recorded offer, a recorded reply and optionally a book, accept the reply exactly if it repeats one offered set with
-- one offered transform per proposal, unaltered and in the offer's order; with a book, also only if it is the choice document 01 makes. It must
-- pass whoever wrote it, and replies of our own responder always pass, with no book or with the responder's. Refusals: those of reading the offer
-- (16 without an SA), then of the book, then of the reply (likewise), then 15 for no offered choice, then 14 for another than the book's." What
-- repeats is `RepeatsOffer` of policy_repeats, a relation between the bodies of two SA payloads with no search in it, and what is chosen
-- `IsChoice`. Shut out: a reply with an attribute byte altered, one that answers half a set, and a second reply that a book would let pass.
use Rattle.std.specs.Prelude.{ℕ, zero, suc, ◌≤◌, ◌<◌, ◌≡◌, [], ◌∷◌, Bool, take, drop, eqb}
use Rattle.std.proofs.Math.Path.{refl, ap}
use Rattle.std.proofs.Common.{sym, ◌∙◌, arith}
use Rattle.std.proofs.Math.Logic.{⊎_elim}
use Rattle.std.proofs.Math.Bool.{true, false}
use Rattle.std.proofs.Math.ListN.{length, get_or}
use Rattle.std.proofs.Math.Dec.{ltb}
use borrow.Author.Tests.{eq-eqb, ne_eqb, eqb-false, ltb-false, le-ltb}
use Rattle.wire_read.specs.Wire.{Bytes}
use Rattle.wire_read.specs.Answer.{Answer, done, refused}
use Rattle.wire_read.specs.Tests.{if◌then◌otherwise◌}
use Rattle.wire_read.proofs.Tests.{never, by_test}
use Rattle.wire_write.proofs.Laws.{paste_inside}
use Rattle.message_header.specs.Header.{exchange_of}
use Rattle.message_chain.specs.Message.{message}
use Rattle.message_chain.specs.Message.{Message}
use Rattle.message_chain.specs.Message as read
use Rattle.message_chain.proofs.Laws.{read_as}
use Rattle.sa_proposals.specs.Proposals.{offer_code}
use Rattle.sa_fields.specs.Fields.{proposal_number, protocol, transform_number}
use Rattle.sa_fields.specs.declared.ProposalNumber.{ProposalNumber}
use Rattle.sa_items.specs.Items.{proposal, proposal_count, transform}
use Rattle.sa_sets.specs.Sets.{set, set_count, set_numbered}
use Rattle.sa_sets.proofs.Places.{set-by-number}
use Rattle.sa_found.proofs.FoundLaws.{exchange-known}
use Rattle.policy_book.specs.Book.{book_read}
use Rattle.policy_book.specs.Book.{Book}
use Rattle.policy_book.specs.Book as books
use Rattle.policy_lines.specs.declared.LineNumber.{LineNumber}
use Rattle.policy_choice.specs.Choice.{choose_from, sa_from, message_choice, book_choice, choice}
use Rattle.policy_choice.specs.Choice.{Choice}
use Rattle.policy_choice.specs.Choice as choices
use Rattle.policy_choice.specs.declared.Transforms.{Transforms}
use Rattle.policy_choice.proofs.ChoiceLaws.{sa_reads, sa_same, chose_says}
use Rattle.policy_why.specs.Why.{message_offer}
use Rattle.policy_reply.specs.Reply.{set_reply, sa_of, spis_low, set_replied, choice_replied, replied, reply_answer}
use Rattle.policy_reply.proofs.ReplyLaws.{choice-short}
use Rattle.policy_lawful.specs.Difference.{Difference}
use Rattle.policy_lawful.specs.Difference.{Nothing, OfferRefused, ReplyRefused}
use Rattle.policy_lawful.specs.Difference.{Lawfulness}
use Rattle.policy_lawful.specs.Difference.{Refused, Lawful}
use Rattle.policy_lawful.specs.Lawful.{◌or_else◌, offer_refused, book_refused, reply_refused, bodies_differ, choice_differs, unread, compared, first_difference, lawful_by, reply_lawful, lawful_answer}
use Rattle.policy_lawful.proofs.LawfulWays.{else_last}
use Rattle.policy_repeats.specs.Repeats.{content, RepeatsOffer, Takes, one, two, IsChoice}
use Rattle.policy_repeats.proofs.RepeatLaws.{nothing-repeats, repeats-nothing, nothing-chosen, chosen-nothing, set_finds, ChoseSet, chose_set, same_count, same-protocols, same-transforms}
use Rattle.policy_repeats.proofs.Refusals.{refused-first, lawful-nothing, neither_differs, bodies_only, choice_only}
use Rattle.policy_repeats.proofs.ReplyPasses.{reply_repeats-offer, reply_is-choice}
use Rattle.promises.specs.Choice.{choice-is}

-- ---- what is recorded

-- a message that reads and has an SA payload
pub record HasSa (m : Bytes) : Type 0 where
  pub exchange : ℕ
  pub count : ℕ
  pub readable : message m ≡ read.Read exchange count
  pub some : length (sa_from count 0 m) ≡ 0 → ⊥

-- the body of that
abbrev pub body : {m : Bytes} (h : HasSa m) → Bytes
body {m} h = sa_from h.count 0 m

-- one that does not, and the number of its refusal
pub data Unreadable (m : Bytes) : ℕ → Type 0 where
  unread-message : {number : ℕ} → message m ≡ read.Refused number → Unreadable m number
  without_sa : {exchange count : ℕ} → message m ≡ read.Read exchange count → length (sa_from count 0 m) ≡ 0 → Unreadable m 16

-- a book is lawful, where there is one
abbrev pub LawfulBook : (booked : Bool) (book : Bytes) → Type 0
LawfulBook booked book = booked ≡ true → (main : ℕ) × (quick : ℕ) × (book_read book ≡ books.Lawful main quick)

-- what is answered, by number and values
abbrev pub answered : (booked : Bool) (book offer reply : Bytes) → Answer
answered booked book offer reply = lawful_answer (reply_lawful booked book offer reply)

abbrev pub accepted : Answer
accepted = done (1 ∷ [])

-- ---- proofs

lawful-is : (x : Lawfulness) → lawful_answer x ≡ accepted → x ≡ Lawful
unfolding lawful_answer
lawful-is (Refused number) e = absurd (omega (arith, ap (λ (a : Answer). length a.values) e))
lawful-is Lawful e = refl

module _ {m : Bytes} (h : HasSa m) where
  body_reads : offer_code h.exchange (body h) ≡ 0
  body_reads = sa_reads m h.exchange h.count h.readable h.some

  all-payloads : sa_from 32 0 m ≡ body h
  all-payloads = sa_same m h.exchange h.count h.readable h.some

  its_exchange : exchange_of m ≡ h.exchange
  its_exchange = (read_as m h.exchange h.count h.readable).same-exchange

  offer-read : offer_refused (message_offer m (message m)) ≡ Nothing
  unfolding offer_refused message_offer
  offer-read = rw (h.readable, ne_eqb (length (body h)) 0 h.some)

  reply_read : reply_refused (message_offer m (message m)) ≡ Nothing
  unfolding reply_refused message_offer
  reply_read = rw (h.readable, ne_eqb (length (body h)) 0 h.some)

offer-unread : (m : Bytes) (number : ℕ) → Unreadable m number → offer_refused (message_offer m (message m)) ≡ OfferRefused number
unfolding offer_refused message_offer
offer-unread m number (unread-message e) = rw e
offer-unread m number (without_sa {count = count} e z) = rw (e, eq-eqb (length (sa_from count 0 m)) 0 z)

reply_unread : (m : Bytes) (number : ℕ) → Unreadable m number → reply_refused (message_offer m (message m)) ≡ ReplyRefused number
unfolding reply_refused message_offer
reply_unread m number (unread-message e) = rw e
reply_unread m number (without_sa {count = count} e z) = rw (e, eq-eqb (length (sa_from count 0 m)) 0 z)

book-of : (booked : Bool) (book : Bytes) → LawfulBook booked book → (if booked then book_refused (book_read book) otherwise Nothing) ≡ Nothing
unfolding book_refused
book-of true book b = let (main, quick, e) = b refl in rw e
book-of false book b = refl

-- between two recordings that read only their SA payloads' bodies count, and the book
by_bodies : (booked : Bool) (book : Bytes) {offer reply : Bytes} (o : HasSa offer) (r : HasSa reply) →
    first_difference booked book offer reply
    ≡ ((if booked then book_refused (book_read book) otherwise Nothing) or_else compared booked o.exchange book (body o) (body r))
unfolding first_difference unread ◌or_else◌
by_bodies booked book o r =
    rw (offer-read o, reply_read r, all-payloads o, all-payloads r, its_exchange o, ← else_last (if booked then book_refused (book_read book) otherwise Nothing))

-- ---- "Refusals: those of reading the offer (16 without an SA), then of the book, then of the reply (likewise)"

pub offer-first : (booked : Bool) (book offer reply : Bytes) (number : ℕ) → Unreadable offer number → answered booked book offer reply ≡ refused number
unfolding lawful_answer reply_lawful first_difference unread lawful_by ◌or_else◌
offer-first booked book offer reply number u = rw (offer-unread offer number u)

pub book-second : (book offer reply : Bytes) (number : ℕ) → HasSa offer → book_read book ≡ books.Refused number → answered true book offer reply ≡ refused number
unfolding lawful_answer reply_lawful first_difference unread book_refused lawful_by ◌or_else◌
book-second book offer reply number o e = rw (offer-read o, e)

pub reply_third : (booked : Bool) (book offer reply : Bytes) (number : ℕ) → HasSa offer → LawfulBook booked book → Unreadable reply number →
    answered booked book offer reply ≡ refused number
unfolding lawful_answer reply_lawful first_difference unread lawful_by ◌or_else◌
reply_third booked book offer reply number o b u = rw (offer-read o, book-of booked book b, reply_unread reply number u)

-- ---- "accept the reply exactly if ..", "15 for no offered choice", "14 for another than the book's"

module _ (booked : Bool) (book offer reply : Bytes) (o : HasSa offer) (r : HasSa reply) (b : LawfulBook booked book) where
  is-compared : reply_lawful booked book offer reply ≡ lawful_by (compared booked o.exchange book (body o) (body r))
  unfolding reply_lawful ◌or_else◌
  is-compared = rw (by_bodies booked book o r, book-of booked book b)

  nothing-compared : answered booked book offer reply ≡ accepted → compared booked o.exchange book (body o) (body r) ≡ Nothing
  nothing-compared e = lawful-nothing _ (sym is-compared ∙ lawful-is (reply_lawful booked book offer reply) e)

  -- with a book or without, an accepted reply repeats one offered set
  pub accepted-repeats : answered booked book offer reply ≡ accepted → RepeatsOffer (body o) (body r)
  unfolding compared
  accepted-repeats e =
      nothing-repeats o.exchange r.exchange (body o) (body r) (body_reads o) (body_reads r) (neither_differs _ _ (nothing-compared e)).0

  -- one that does not is refused with 15, whatever a book chooses
  pub unrepeated_fifteen : (RepeatsOffer (body o) (body r) → ⊥) → answered booked book offer reply ≡ refused 15
  unfolding compared lawful_answer
  unrepeated_fifteen other =
      ⊎_elim
      (λ e. absurd (other (nothing-repeats o.exchange r.exchange (body o) (body r) (body_reads o) (body_reads r) e)))
      (λ e. ap lawful_answer (is-compared ∙ ap lawful_by (refused-first _ _ 15 e) ∙ e))
      (bodies_only (body o) (body r))

module _ (book offer reply : Bytes) (o : HasSa offer) (r : HasSa reply) where
  repeats : RepeatsOffer (body o) (body r) → bodies_differ (body o) (body r) ≡ Nothing
  repeats q = repeats-nothing o.exchange r.exchange (body o) (body r) (body_reads o) (body_reads r) q

  -- with no book a reply that repeats is accepted
  pub repeats-accepted : RepeatsOffer (body o) (body r) → answered false book offer reply ≡ accepted
  unfolding compared lawful_answer lawful_by ◌or_else◌
  repeats-accepted q = rw (is-compared false book offer reply o r (λ e. never (cc)), repeats q)

  module _ (main quick : ℕ) (lawful : book_read book ≡ books.Lawful main quick) where
    the_book : LawfulBook true book
    the_book e = (main, quick, lawful)

    -- what is chosen of the offer's body is what `choose` answers to book and message
    pub chosen-of-both : choose_from o.exchange book (body o) ≡ choice book offer
    chosen-of-both = sym (choice-is book offer (record {
      main = main;
      quick = quick;
      exchange = o.exchange;
      count = o.count;
      lawful = lawful;
      readable = o.readable;
      offered = o.some;
    }))

    -- with a book it is accepted exactly if it is the choice
    pub accepted-choice : answered true book offer reply ≡ accepted → IsChoice o.exchange book (body o) (body r)
    unfolding compared
    accepted-choice e =
        nothing-chosen o.exchange r.exchange book (body o) (body r) (body_reads o) (body_reads r)
        (accepted-repeats true book offer reply o r the_book e)
        (neither_differs _ _ (nothing-compared true book offer reply o r the_book e)).1

    pub choice-accepted : RepeatsOffer (body o) (body r) → IsChoice o.exchange book (body o) (body r) → answered true book offer reply ≡ accepted
    unfolding compared lawful_answer lawful_by ◌or_else◌
    choice-accepted q c = rw (is-compared true book offer reply o r the_book, repeats q, chosen-nothing o.exchange book (body o) (body r) c)

    -- and is refused with 14 where it repeats and is another, or nothing is chosen
    pub other_fourteen : RepeatsOffer (body o) (body r) → (IsChoice o.exchange book (body o) (body r) → ⊥) → answered true book offer reply ≡ refused 14
    unfolding compared lawful_answer ◌or_else◌
    other_fourteen q other =
        ⊎_elim
        (λ e. absurd (other (nothing-chosen o.exchange r.exchange book (body o) (body r) (body_reads o) (body_reads r) q e)))
        (λ e.
        let by-choice : Difference → Lawfulness = λ d. lawful_by (d or_else choice_differs (body r) (choose_from o.exchange book (body o))) in
        ap lawful_answer (is-compared true book offer reply o r the_book ∙ ap by-choice (repeats q) ∙ e))
        (choice_only (body r) (choose_from o.exchange book (body o)))

    pub nothing-chosen_fourteen : RepeatsOffer (body o) (body r) → choose_from o.exchange book (body o) ≡ choices.Refused 14 →
        answered true book offer reply ≡ refused 14
    nothing-chosen_fourteen q e = other_fourteen q (λ c. let bad = sym e ∙ c.chosen in never (cc))

-- ---- "It must pass whoever wrote it": the answer depends on the two bodies and the book alone

pub bodies_alone : (booked : Bool) (book offer reply offer2 reply2 : Bytes) (o : HasSa offer) (r : HasSa reply) (o2 : HasSa offer2) (r2 : HasSa reply2) →
    body o ≡ body o2 → body r ≡ body r2 → answered booked book offer reply ≡ answered booked book offer2 reply2
unfolding reply_lawful
bodies_alone booked book offer reply offer2 reply2 o r o2 r2 same-offer same_reply =
    let reads : offer_code o.exchange (body o2) ≡ 0 = ap (offer_code o.exchange) (sym same-offer) ∙ body_reads o in
    let same = exchange-known o.exchange o2.exchange (body o2) reads (body_reads o2) in
    rw (by_bodies booked book o r, by_bodies booked book o2 r2, same-offer, same_reply, same)

-- ---- "with a book, also only if it is the choice": at most one set and one list of transforms passes

pub record SameTaken (a b : Bytes) : Type 0 where
  pub same_set : proposal_number (proposal 0 (set 0 a)) ≡ proposal_number (proposal 0 (set 0 b))
  pub as_many : proposal_count (set 0 a) ≡ proposal_count (set 0 b)
  pub each-protocol : (j : ℕ) → j < proposal_count (set 0 a) → protocol (proposal j (set 0 a)) ≡ protocol (proposal j (set 0 b))
  pub each-transform : (j : ℕ) → j < proposal_count (set 0 a) →
      content (transform 0 (proposal j (set 0 a))) ≡ content (transform 0 (proposal j (set 0 b)))

-- two sets that take the same transforms have the same numbers in each proposal
taken-number : (s t : Bytes) (transforms : Transforms) → Takes s transforms → (others : Transforms) → Takes t others → transforms ≡ others → (j : ℕ) →
    j < proposal_count s → transform_number (transform 0 (proposal j s)) ≡ transform_number (transform 0 (proposal j t))
taken-number s t transforms (one c) others (one d) e zero l = cc
taken-number s t transforms (one c) others (one d) e (suc j) l = absurd (omega arith)
taken-number s t transforms (one c) others (two d) e j l = never (cc)
taken-number s t transforms (two c) others (one d) e j l = never (cc)
taken-number s t transforms (two c) others (two d) e zero l = cc
taken-number s t transforms (two c) others (two d) e (suc zero) l = cc
taken-number s t transforms (two c) others (two d) e (suc (suc j)) l = absurd (omega arith)

pub one_passes : (book offer first second : Bytes) (o : HasSa offer) (a : HasSa first) (b : HasSa second) (main quick : ℕ) →
    book_read book ≡ books.Lawful main quick → answered true book offer first ≡ accepted → answered true book offer second ≡ accepted →
    SameTaken (body a) (body b)
one_passes book offer first second o a b main quick lawful e f =
    let its : LawfulBook true book = λ x. (main, quick, lawful) in
    let r = accepted-repeats true book offer first o a its e in
    let q = accepted-repeats true book offer second o b its f in
    let c = accepted-choice book offer first o a main quick lawful e in
    let d = accepted-choice book offer second o b main quick lawful f in
    let chosen = sym c.chosen ∙ d.chosen in
    let number : proposal_number (proposal 0 (set 0 (body a))) ≡ proposal_number (proposal 0 (set 0 (body b))) = cc in
    let transforms : c.transforms ≡ d.transforms = cc in
    record {
      same_set = number;
      as_many = same_count o.exchange a.exchange b.exchange (body o) (body a) (body b) (body_reads o) (body_reads a) (body_reads b) r q number;
      each-protocol = same-protocols o.exchange a.exchange b.exchange (body o) (body a) (body b) (body_reads o) (body_reads a) (body_reads b) r q number;
      each-transform = λ j l.
          same-transforms o.exchange a.exchange b.exchange (body o) (body a) (body b) (body_reads o) (body_reads a) (body_reads b) r q number j l
          (taken-number (set 0 (body a)) (set 0 (body b)) c.transforms c.takes d.transforms d.takes transforms j l);
    }

-- ---- our own replies

-- a choice was made from a lawful book and a message that has an SA payload
record ChosenFrom (book m : Bytes) (number : ProposalNumber) (line : LineNumber) (transforms : Transforms) : Type 0 where
  offer : HasSa m
  main : ℕ
  quick : ℕ
  lawful : book_read book ≡ books.Lawful main quick
  chosen : choose_from offer.exchange book (body offer) ≡ choices.Chosen number line transforms

module _ (book m : Bytes) (number : ProposalNumber) (line : LineNumber) (transforms : Transforms) where
  from_message : (main quick : ℕ) → book_read book ≡ books.Lawful main quick → (x : Message) → message m ≡ x →
      message_choice book m x ≡ choices.Chosen number line transforms → ChosenFrom book m number line transforms
  unfolding message_choice
  from_message main quick lawful (read.Refused n) is e = never (cc)
  from_message main quick lawful (read.Read exchange count) is e =
      by_test (eqb (length (sa_from count 0 m)) 0)
      (λ z. let bad = rw z at e in never (cc))
      (λ z. record {
        offer = record { exchange = exchange; count = count; readable = is; some = eqb-false _ _ z };
        main = main;
        quick = quick;
        lawful = lawful;
        chosen = rw z at e;
      })

  from_book : (b : Book) → book_read book ≡ b → book_choice book m b ≡ choices.Chosen number line transforms → ChosenFrom book m number line transforms
  unfolding book_choice
  from_book (books.Refused n) is e = never (cc)
  from_book (books.Lawful main quick) is e = from_message main quick is (message m) refl e

  chosen_from : choice book m ≡ choices.Chosen number line transforms → ChosenFrom book m number line transforms
  unfolding choice
  chosen_from e = from_book (book_read book) refl e

-- the reply to a choice, in any message that reads, is accepted with no book, whatever that holds, and with the book that it was made by
module _ (book offer reply : Bytes) (o : HasSa offer) (r : HasSa reply) (number : ProposalNumber) (line : LineNumber) (transforms : Transforms)
    (chosen : choose_from o.exchange book (body o) ≡ choices.Chosen number line transforms) (ah esp next : ℕ) (small-ah : ah < 4294967296)
    (small-esp : esp < 4294967296) (high : spis_low ah esp transforms (set_numbered number (body o)) ≡ false)
    (written : body r ≡ drop 4 (sa_of next (set_reply ah esp transforms (set_numbered number (body o))))) where
  own-set : ChoseSet o.exchange book (body o) number transforms
  own-set = chose_set o.exchange book (body o) number line transforms chosen

  own-repeats : RepeatsOffer (body o) (body r)
  own-repeats =
      rw written (reply_repeats-offer o.exchange book (body o) (body_reads o) number transforms own-set ah esp small-ah small-esp high next)

  own-choice : IsChoice o.exchange book (body o) (body r)
  own-choice =
      rw written (reply_is-choice o.exchange book (body o) (body_reads o) number transforms own-set ah esp small-ah small-esp high next line chosen)

  pub own_alone : (any : Bytes) → answered false any offer reply ≡ accepted
  own_alone any = repeats-accepted any offer reply o r own-repeats

  pub own-booked : (main quick : ℕ) → book_read book ≡ books.Lawful main quick → answered true book offer reply ≡ accepted
  own-booked main quick lawful = choice-accepted book offer reply o r main quick lawful own-repeats own-choice

-- what `reply` has written where it is done: the first bytes of the buffer
record Wrote (book m : Bytes) (ah esp : ℕ) (buffer : Bytes) (size : ℕ) : Type 0 where
  number : ProposalNumber
  line : LineNumber
  transforms : Transforms
  chosen : choice book m ≡ choices.Chosen number line transforms
  high : spis_low ah esp transforms (set_numbered number (sa_from 32 0 m)) ≡ false
  bytes : take size (replied book m ah esp buffer).1 ≡ sa_of 0 (set_reply ah esp transforms (set_numbered number (sa_from 32 0 m)))

not_done : (number size : ℕ) → refused number ≡ done (size ∷ []) → ⊥
not_done number size e = omega (arith, ap (λ (a : Answer). length a.values) e)

module _ (book m : Bytes) (ah esp : ℕ) (small-ah : ah < 4294967296) (small-esp : esp < 4294967296) (buffer : Bytes) (size : ℕ) where
  wrote-set : 2048 ≤ length buffer → (number : ProposalNumber) (line : LineNumber) (transforms : Transforms) → choice book m ≡ choices.Chosen number line transforms →
      reply_answer (replied book m ah esp buffer).0 ≡ done (size ∷ []) → Wrote book m ah esp buffer size
  unfolding replied choice_replied set_replied reply_answer
  wrote-set room number line transforms chosen e =
      let s : Bytes = set_numbered number (sa_from 32 0 m) in
      let bytes : Bytes = sa_of 0 (set_reply ah esp transforms s) in
      let wide : ltb (length buffer) 2048 ≡ false = le-ltb (length buffer) 2048 room in
      by_test (spis_low ah esp transforms s)
      (λ h. absurd (not_done 11 size (rw (wide, chosen, h) at e)))
      (λ h.
      let f = chosen_from book m number line transforms chosen in
      let c = chose_says f.offer.exchange f.offer.count book m f.offer.readable number line transforms chosen in
      let few = choice-short f.offer.exchange f.offer.count book m number line transforms c ah esp small-ah small-esp h 0 in
      let same : length bytes ≡ size = ap (λ (a : Answer). get_or a.values 0 0) (rw (wide, chosen, h) at e) in
      record {
        number = number;
        line = line;
        transforms = transforms;
        chosen = chosen;
        high = h;
        bytes = rw (wide, chosen, h, ← same) (paste_inside buffer 0 bytes (omega arith));
      })

  wrote-choice : 2048 ≤ length buffer → (c : Choice) → choice book m ≡ c → reply_answer (replied book m ah esp buffer).0 ≡ done (size ∷ []) →
      Wrote book m ah esp buffer size
  wrote-choice room (choices.Refused number) is e =
      unfold replied choice_replied reply_answer in absurd (not_done number size (rw (le-ltb (length buffer) 2048 room, is) at e))
  wrote-choice room (choices.Chosen number line transforms) is e = wrote-set room number line transforms is e

  wrote : reply_answer (replied book m ah esp buffer).0 ≡ done (size ∷ []) → Wrote book m ah esp buffer size
  unfolding replied reply_answer
  wrote e =
      by_test (ltb (length buffer) 2048)
      (λ h. absurd (not_done 8192 size (rw h at e)))
      (λ h. wrote-choice (ltb-false _ _ h) (choice book m) refl e)

-- what `reply` writes, put into any message that reads, passes with no book and with the book it was made by
pub record Passes (book offer reply : Bytes) : Type 0 where
  pub with_no_book : (any : Bytes) → answered false any offer reply ≡ accepted
  pub with_the_book : answered true book offer reply ≡ accepted

pub reply_passes : (book offer reply : Bytes) (ah esp : ℕ) (buffer : Bytes) (size : ℕ) → ah < 4294967296 → esp < 4294967296 →
    reply_answer (replied book offer ah esp buffer).0 ≡ done (size ∷ []) → (r : HasSa reply) →
    body r ≡ drop 4 (take size (replied book offer ah esp buffer).1) → Passes book offer reply
reply_passes book offer reply ah esp buffer size small-ah small-esp e r written =
    let w = wrote book offer ah esp small-ah small-esp buffer size e in
    let f = chosen_from book offer w.number w.line w.transforms w.chosen in
    let o = f.offer in
    let same = all-payloads o in
    let high : spis_low ah esp w.transforms (set_numbered w.number (body o)) ≡ false = rw (← same) w.high in
    let bytes : body r ≡ drop 4 (sa_of 0 (set_reply ah esp w.transforms (set_numbered w.number (body o)))) = rw (← same) (written ∙ ap (drop 4) w.bytes) in
    record {
      with_no_book = own_alone book offer reply o r w.number w.line w.transforms f.chosen ah esp 0 small-ah small-esp high bytes;
      with_the_book = own-booked book offer reply o r w.number w.line w.transforms f.chosen ah esp 0 small-ah small-esp high bytes f.main
          f.quick f.lawful;
    }

-- ---- what is shut out

-- "unaltered": beside an accepted reply, one of the same set and the same transform's number with any other byte in that transform
pub altered_fifteen : (booked : Bool) (book offer first second : Bytes) (o : HasSa offer) (a : HasSa first) (b : HasSa second) → LawfulBook booked book →
    answered booked book offer first ≡ accepted → proposal_number (proposal 0 (set 0 (body a))) ≡ proposal_number (proposal 0 (set 0 (body b))) → (j : ℕ) →
    j < proposal_count (set 0 (body a)) →
    transform_number (transform 0 (proposal j (set 0 (body a)))) ≡ transform_number (transform 0 (proposal j (set 0 (body b)))) →
    (content (transform 0 (proposal j (set 0 (body a)))) ≡ content (transform 0 (proposal j (set 0 (body b)))) → ⊥) →
    answered booked book offer second ≡ refused 15
altered_fifteen booked book offer first second o a b lawful e number j l same other =
    unrepeated_fifteen booked book offer second o b lawful
    (λ q. other (same-transforms o.exchange a.exchange b.exchange (body o) (body a) (body b) (body_reads o) (body_reads a) (body_reads b)
    (accepted-repeats booked book offer first o a lawful e) q number j l same))

-- a reply that takes the proposals of a set as alternatives: it has the number of an offered set, and not as many proposals
pub alternatives_fifteen : (booked : Bool) (book offer reply : Bytes) (o : HasSa offer) (r : HasSa reply) → LawfulBook booked book → (k : ℕ) →
    k < set_count (body o) → proposal_number (proposal 0 (set 0 (body r))) ≡ proposal_number (proposal 0 (set k (body o))) →
    (proposal_count (set 0 (body r)) ≡ proposal_count (set k (body o)) → ⊥) → answered booked book offer reply ≡ refused 15
alternatives_fifteen booked book offer reply o r lawful k a number other =
    unrepeated_fifteen booked book offer reply o r lawful
    (λ q.
    let by_number = set-by-number o.exchange (body o) (body_reads o) k a in
    let found = set_finds o.exchange r.exchange (body o) (body r) (body_reads o) (body_reads r) q in
    other (q.repeats.as_many ∙ ap proposal_count (sym found ∙ ap (λ (n : ProposalNumber). set_numbered n (body o)) number ∙ by_number)))
