-- Every message that a responder writes answers the message that it keeps as got, whoever wrote that: it takes one message 1, which passed
-- its checks, and all that it sends from then on is its one reply.
use Prim.Native.Nat.{ℕ, ◌<◌, ◌≤◌}
use mathlib.Core.Path.{◌≡◌, refl, sym, ap, subst, ◌∙◌}
use mathlib.Core.List.{List, []}
use mathlib.Core.Bool.{Bool, true, not, ◌||◌}
use native.Mathlib.Omega.{arith}
use lib.ListN.{length, drop, length-drop}
use lib.Dec.{eqb}
use borrow.Author.Tests.{eqb-true, eq-eqb, ne_eqb, not-false}
use Rattle.wire_read.proofs.Tests.{never, clash, by_test, passed}
use Rattle.sa_proposals.specs.Proposals.{offer_code}
use Rattle.sa_sets.specs.Sets.{set_numbered}
use Rattle.message_header.specs.Header.{message_id_of}
use Rattle.message_chain.specs.Message.{message}
use Rattle.policy_lines.specs.Lines.{main_count, quick_count}
use Rattle.policy_book.specs.Book.{book_read}
use Rattle.policy_book.specs.Book as books
use Rattle.policy_choice.specs.Choice.{body_at, sa_from, choose_from, message_choice, book_choice, choice}
use Rattle.policy_choice.specs.Choice.{Choice}
use Rattle.policy_choice.specs.Choice.{Refused, Chosen}
use Rattle.policy_choice.proofs.ChoiceLaws.{chose_says}
use Rattle.policy_reply.specs.Reply.{set_reply, sa_of}
use Rattle.policy_reply.proofs.ReplyLaws.{sa_long, choice-repeats, choice-short}
use Rattle.quick_write.specs.Messages.{book_of, proposals_of, message_two}
use Rattle.quick_end.specs.Fresh.{is_given_up}
use Rattle.quick_end.specs.declared.Role.TheVariants.{Responder}
use Rattle.quick_end.specs.declared.State.{State}
use Rattle.quick_end.specs.declared.State.TheVariants.{Idle, Sent, Half, Open, GivenUp}
use Rattle.quick_end.specs.declared.Own.{Own}
use Rattle.quick_end.specs.declared.Progress.{Progress}
use Rattle.quick_end.specs.declared.End.{End}
use Rattle.quick_shape.specs.Shapes.{is_longer, alike, shape_of}
use Rattle.quick_check.specs.Checks.{read_code}
use Rattle.quick_step.specs.Steps.{After, small, refusing, nothing, repeating, with_state}
use Rattle.quick_tick.specs.Tick.{one_more}
use Rattle.quick_deliver.specs.Deliver.{delivery_code, identity_at, message_two_to, halfway, after_choice, at_responder, delivered}
use Rattle.quick_exchange.specs.Exchange.{Party, Call, begin, deliver, tick, called, left, logged, FreshEnd, state_of, sent_of, got_of, FullSize, Chooses}
use Rattle.quick_exchange.proofs.Fresh.{Holds, fresh_fit}
use Rattle.quick_exchange.proofs.TakenLaws.{spis_high}
use Rattle.quick_exchange.proofs.Moves.{past, waits, second_is, at_front, keeps_it, in_front_again, by-begin, by-tick, by-delivery}
use Rattle.quick_replies.specs.Replies.{Octets, Narrow, Calls, on, AnswersOne, All, also}
use Rattle.quick_replies.proofs.OneLaws.{id-small, Offering, one_passed}
use Rattle.quick_replies.proofs.TwoLaws.{two-reads}

-- ---- what the responder was made with

module _ {ah esp icookie rcookie : ℕ} {nonce : List ℕ} (end : End) (h : Holds Responder icookie rcookie ah esp nonce end) where
  abbrev own : Own
  own = end.own

  book-lawful : book_read (book_of own) ≡ books.Lawful (main_count (book_of own)) (quick_count (book_of own))
  unfolding book_read
  book-lawful = let b = h.fit.book in rw (b.0, eq-eqb _ _ b.1)

  -- ---- the answer to message 1

  module _ (m : List ℕ) (one : Offering m) (bytes : Octets m) (s : Chooses own m) where
    abbrev ps : List ℕ
    ps = set_reply own.ah own.esp s.transforms (set_numbered s.number (body_at 1 m))

    abbrev reply : List ℕ
    reply = message_two_to m own s.transforms (set_numbered s.number (body_at 1 m))

    is-choice : choice (book_of own) m ≡ Chosen s.number s.line s.transforms
    unfolding choice book_choice message_choice
    is-choice = rw (book-lawful, one.reads, one.its_offer, ne_eqb (length (body_at 1 m)) 0 one.some-offer) s.chosen

    answers : AnswersOne own m reply × (length reply ≤ 2048)
    unfolding message_two proposals_of
    answers =
        let c = chose_says 32 one.count (book_of own) m one.reads s.number s.line s.transforms is-choice in
        let sa : sa_from 32 0 m ≡ body_at 1 m = c.same_sa ∙ one.its_offer in
        let low = spis_high own.ah own.esp h.fit.ah.0 h.fit.esp.0 s.transforms (set_numbered s.number (sa_from 32 0 m)) in
        let repeats =
        choice-repeats 32 one.count (book_of own) m s.number s.line s.transforms c own.ah own.esp h.fit.ah.1 h.fit.esp.1 low 10 in
        let few =
        choice-short 32 one.count (book_of own) m s.number s.line s.transforms c own.ah own.esp h.fit.ah.1 h.fit.esp.1 low 10 in
        let readable : offer_code 32 (drop 4 (sa_of 10 ps)) ≡ 0 = (rw sa at repeats).readable in
        let two =
        two-reads own h.fit (message_id_of m) one.some_id (id-small m bytes) ps (identity_at 3 m) (identity_at 4 m) readable (rw sa at few) one.identities in (
          record {
            offered = one.count;
            reads-offer = one.reads;
            its_offer = one.its_offer;
            some-offer = one.some-offer;
            chooses = s;
            replied = two.count;
            reads_reply = two.reads;
            its_reply = two.its_sa;
            some_reply = λ z. omega (arith, ap length two.its_sa, length-drop 4 (sa_of 10 ps), sa_long 10 ps);
          },
          two.short,
        )

-- ---- where a responder stands after any calls

data Stands (p : Party) (log : List (List ℕ)) : Type 0 where
  new : state_of p ≡ Idle → log ≡ [] → Stands p log
  answered : past (state_of p) ≡ true → AnswersOne p.end.own (got_of p) (sent_of p) → All (AnswersOne p.end.own (got_of p)) log → Stands p log

-- a call leaves a responder p that has written log so
abbrev Goes : Party → List (List ℕ) → After → Type 0
Goes p log x = ((left x).end.own ≡ p.end.own) × Stands (left x) (logged x log)

module _ (p : Party) (log : List (List ℕ)) where
  refuses : Stands p log → (output : List ℕ) (number : ℕ) → Goes p log (refusing p.end p.sent p.got output number)
  refuses k output number = (refl, k)

  -- its kept message is written again
  again : (output : List ℕ) → FullSize p output → AnswersOne p.end.own (got_of p) (sent_of p) → All (AnswersOne p.end.own (got_of p)) log →
      (progress : Progress) → All (AnswersOne p.end.own (got_of p)) (logged (repeating p.end p.sent p.got output progress) log)
  again output room a all progress = rw (in_front_again p.sent output p.end.progress.sentsize room.in_sent room.in_output) (also a all)

  -- ---- a tick

  resends : Stands p log → (output : List ℕ) → FullSize p output → waits (state_of p) ≡ true →
      Goes p log (repeating p.end p.sent p.got output (one_more p.end.progress))
  unfolding one_more
  resends (new idle none) output room w = clash (cc)
  resends (answered is a all) output room w = (refl, answered is a (again output room a all (one_more p.end.progress)))

  gives_up : Stands p log → (output : List ℕ) → waits (state_of p) ≡ true →
      Goes p log (nothing p.end p.sent p.got output (with_state GivenUp p.end.progress))
  unfolding with_state
  gives_up (new idle none) output w = clash (cc)
  gives_up (answered is a all) output w = (refl, answered refl a all)

  -- ---- a delivery

  repeats : Stands p log → (output : List ℕ) → FullSize p output → state_of p ≡ Half →
      Goes p log (repeating p.end p.sent p.got output p.end.progress)
  repeats (new idle none) output room q = never (cc)
  repeats (answered is a all) output room q = (refl, answered is a (again output room a all p.end.progress))

  opens : Stands p log → (output : List ℕ) → state_of p ≡ Half → Goes p log (nothing p.end p.sent p.got output (with_state Open p.end.progress))
  unfolding with_state
  opens (new idle none) output q = never (cc)
  opens (answered is a all) output q = (refl, answered refl a all)

  module _ {ah esp icookie rcookie : ℕ} {nonce : List ℕ} (end : End) (h : Holds Responder icookie rcookie ah esp nonce end)
      (same : p.end.own ≡ end.own) where
    role : p.end.own.role ≡ Responder
    role = ap (λ (own : Own). own.role) same ∙ h.its_role

    module _ (m output : List ℕ) (bytes : Octets m) (room : FullSize p output)
        (reads : read_code p.end.own (state_of p) p.end.progress.id m (message m) ≡ 0) where
      -- message 1 is answered, and kept
      takes : Stands p log → state_of p ≡ Idle → (one : Offering m) (s : Chooses p.end.own m) →
          Goes p log (halfway p.end m p.sent p.got output s.number s.transforms (set_numbered s.number (body_at 1 m)))
      unfolding halfway
      takes (answered is a all) q one s = clash (cc)
      takes (new idle none) q one s =
          let reply : List ℕ = message_two_to m p.end.own s.transforms (set_numbered s.number (body_at 1 m)) in
          let a : AnswersOne p.end.own m reply × (length reply ≤ 2048) =
          subst
          (λ (own : Own). (s : Chooses own m) →
          AnswersOne own m (message_two_to m own s.transforms (set_numbered s.number (body_at 1 m))) ×
          (length (message_two_to m own s.transforms (set_numbered s.number (body_at 1 m))) ≤ 2048))
          (sym same) (answers end h m one bytes) s in
          let got = keeps_it p.got m one.short room.in_got in
          let sent = keeps_it p.sent reply a.1 room.in_sent in
          let written = at_front output reply a.1 room.in_output in
          (refl, answered refl (rw (got, sent) a.0) (rw (got, written, none) (also a.0 All.none)))

      by-choice : Stands p log → state_of p ≡ Idle → Offering m → (c : Choice) → choose_from 32 (book_of p.end.own) (body_at 1 m) ≡ c →
          Goes p log (after_choice p.end m p.sent p.got output c)
      unfolding after_choice
      by-choice k q one (Refused number) e = refuses k output number
      by-choice k q one (Chosen number line transforms) e = takes k q one (record { number = number; line = line; transforms = transforms; chosen = e })

      at_second_lem : Stands p log → (state : State) → state_of p ≡ state → Goes p log (at_responder p.end m p.sent p.got output state)
      unfolding at_responder
      at_second_lem k Idle q =
          by_test (is_longer (shape_of m))
          (λ e. rw e (by-choice k q (one_passed p.end.own (state_of p) p.end.progress.id m reads e) (choose_from 32 (book_of p.end.own) (body_at 1 m)) refl))
          (λ e. rw e (refuses k output 8195))
      at_second_lem k Half q =
          by_test (alike m (got_of p)) (λ e. rw e (repeats k output room q))
          (λ e. by_test (eqb (shape_of m) 1) (λ f. rw (e, f) (opens k output q)) (λ f. rw (e, f) (refuses k output 8195)))
      at_second_lem k Open q = by_test (alike m (got_of p) || eqb (shape_of m) 1) (λ e. rw e (refl, k)) (λ e. rw e (refuses k output 8195))
      at_second_lem k Sent q = refuses k output 8195
      at_second_lem k GivenUp q = refuses k output 8195

    delivers : Stands p log → (m : List ℕ) (holds : Bool) (output : List ℕ) → Octets m →
        Goes p log (delivered p.end holds m p.sent p.got output)
    unfolding delivered delivery_code
    delivers k m holds output bytes =
        let code : ℕ = delivery_code p.end holds m (small p.sent p.got output) in
        by_test (not (eqb code 0)) (λ e. rw e (refuses k output code))
        (λ e.
        let tight = passed (small p.sent p.got output) 8192 _ (λ z. omega arith) (eqb-true code 0 (not-false _ e)) in
        let hash = passed (not holds) 23 _ (λ z. omega arith) tight.1 in
        let up = passed (is_given_up (state_of p)) 8196 _ (λ z. omega arith) hash.1 in
        by-delivery p output (Goes p log) (refuses k output) m holds
        (λ room yes. rw (second_is p.end.own.role role) (at_second_lem m output bytes room up.1 k (state_of p) refl)))

    -- ---- every call

    goes_on : Stands p log → (call : Call) → Narrow call → Goes p log (called p call)
    unfolding called
    goes_on k (begin id first second output) narrow =
        by-begin p output (Goes p log) (refuses k output) id first second (λ b. clash (sym (second_is p.end.own.role role) ∙ b.is-first))
    goes_on k (deliver m holds output) narrow = delivers k m holds output narrow
    goes_on k (tick output) narrow = by-tick p output (Goes p log) (refuses k output) (λ q. (refl, k)) (resends k output) (gives_up k output)

all_of : {p : Party} {log : List (List ℕ)} → Stands p log → All (AnswersOne p.end.own (got_of p)) log
all_of (new idle none) = rw none All.none
all_of (answered is a all) = all

-- ---- a responder that `fresh` has made

module _ {icookie rcookie : ℕ} {end : End} (f : FreshEnd Responder icookie rcookie end) (icookie-fits : icookie < 18446744073709551616)
    (rcookie-fits : rcookie < 18446744073709551616) where
  made : Holds Responder icookie rcookie f.ah f.esp f.nonce end
  made = fresh_fit Responder icookie rcookie end icookie-fits rcookie-fits f

  -- its book is lawful
  pub fresh-book : (main : ℕ) × (quick : ℕ) × (book_read (book_of end.own) ≡ books.Lawful main quick)
  fresh-book = (main_count (book_of end.own), quick_count (book_of end.own), book-lawful end made)

  -- its SPIs are fit for a reply
  pub fresh_spis : (256 ≤ end.own.ah) × (end.own.ah < 4294967296) × (256 ≤ end.own.esp) × (end.own.esp < 4294967296)
  fresh_spis = let fit = made.fit in (fit.ah.0, fit.ah.1, fit.esp.0, fit.esp.1)

module _ {r : Party} {icookie rcookie : ℕ} (f : FreshEnd Responder icookie rcookie r.end) (icookie-fits : icookie < 18446744073709551616)
    (rcookie-fits : rcookie < 18446744073709551616) where
  always : {p : Party} {log : List (List ℕ)} → Calls r p log → (p.end.own ≡ r.end.own) × Stands p log
  always Calls.none = (refl, new (made f icookie-fits rcookie-fits).is-idle refl)
  always (on {p} {log} k call narrow) =
      let v = always k in
      let w = goes_on p log r.end (made f icookie-fits rcookie-fits) v.0 v.1 call narrow in
      (w.0 ∙ v.0, w.1)

  -- every message that it writes answers the message that it keeps as got
  pub responder-answers : {p : Party} {log : List (List ℕ)} → Calls r p log → All (AnswersOne r.end.own (got_of p)) log
  responder-answers {p} {log} k = let v = always k in subst (λ (own : Own). All (AnswersOne own (got_of p)) log) v.0 (all_of v.1)
