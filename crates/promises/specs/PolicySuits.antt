-- Demand three's premise, "the responder's policy suits the offer". An Idle responder chooses from message one as the library chooses from any
-- message, so the premise is met exactly when some offered set suits some line of the responder's book; and it answers 14 exactly when none does.
use Rattle.std.specs.Prelude.{ℕ, zero, suc, ◌<◌, ◌≡◌, [], ◌∷◌, Bool, true, false, not, length, ltb, eqb}
use Rattle.std.proofs.Math.Path.{refl, ap}
use Rattle.std.proofs.Common.{sym, subst, ◌∙◌, arith}
use borrow.Author.Tests.{eqb-true, eq-eqb, ne_eqb, ltb-false, not-false}
use Rattle.wire_read.specs.Wire.{Bytes}
use Rattle.wire_read.specs.Tests.{if◌then◌otherwise◌}
use Rattle.wire_read.specs.Answer.{Answer, done, refused}
use Rattle.wire_read.proofs.Tests.{never, clash, both, by_test, passed}
use Rattle.message_chain.specs.Message.{message, message_answer, payload_at}
use Rattle.message_chain.specs.Message.{Message}
use Rattle.message_chain.specs.Message as read
use Rattle.message_chain.proofs.Laws.{refusal_some}
use Rattle.sa_proposals.specs.Proposals.{offer_code}
use Rattle.sa_sets.specs.Sets.{set, set_count}
use Rattle.policy_lines.specs.Lines.{main_count, quick_count, book_size}
use Rattle.policy_book.specs.Book.{book_in_front, book_read, book_answer}
use Rattle.policy_book.specs.Book as books
use Rattle.policy_suiting.specs.Suiting.{Suits}
use Rattle.policy_choice.specs.Choice.{line_count, choose_from, body_at, sa_from, choice, choice_answer, NoneSuits}
use Rattle.policy_choice.specs.Choice.{Choice}
use Rattle.policy_choice.specs.Choice as choices
use Rattle.policy_choice.proofs.ChoiceLaws.{body_reads}
use Rattle.quick_write.specs.Messages.{book_of}
use Rattle.quick_end.specs.Fresh.{is_given_up}
use Rattle.quick_end.specs.declared.Role.TheVariants.{Responder}
use Rattle.quick_end.specs.declared.State.{State}
use Rattle.quick_end.specs.declared.State.TheVariants.{Idle}
use Rattle.quick_end.specs.declared.Own.{Own}
use Rattle.quick_shape.specs.Shapes.{type_is, shape, is_longer, count_of, shape_of}
use Rattle.quick_check.specs.Checks.{quick_code, read_code}
use Rattle.quick_step.specs.Steps.{small, step_answer}
use Rattle.quick_deliver.specs.Deliver.{delivery_code, halfway, after_choice, at_responder, delivered}
use Rattle.quick_exchange.specs.Exchange.{Party, deliver, called, World, Run, Fresh, state_of, Beginning, Chooses, one_of}
use Rattle.quick_exchange.proofs.Fresh.{fresh_fit}
use Rattle.quick_exchange.proofs.Moves.{second_is}
use Rattle.quick_exchange.proofs.Liveness as liveness
use Rattle.promises.specs.Payloads as payloads
use Rattle.promises.specs.Choice.{Offer, Best, choice-is, fourteen_means_none, none_means_fourteen, chosen-best, book-own}
use Rattle.promises.specs.DemandThree.{suits-unrefused}

-- ---- what is said

-- a message of exchange 32 in "either longer shape"
pub record Longer (m : Bytes) : Type 0 where
  pub count : ℕ
  pub readable : message_answer (message m) ≡ done (32 ∷ count ∷ [])
  pub longer : is_longer (shape_of m) ≡ true

-- some offered set suits some policy line
pub record SomeSuits (exchange : ℕ) (book body : Bytes) : Type 0 where
  pub k : ℕ
  pub i : ℕ
  pub a_set : k < set_count body
  pub a_line : i < line_count exchange book
  pub suits : Suits exchange i book (set k body)

-- a lawful book
pub record LawfulBook (book : Bytes) : Type 0 where
  pub main : ℕ
  pub quick : ℕ
  pub lawful : book_answer (book_read book) ≡ done (main ∷ quick ∷ [])

-- message one is delivered at a responder that is Idle, and passes the checks
pub record MessageOne (p : Party) (m : Bytes) (holds : Bool) (output : Bytes) : Type 0 where
  pub is-responder : p.end.own.role ≡ Responder
  pub is-idle : state_of p ≡ Idle
  pub passes : delivery_code p.end holds m (small p.sent p.got output) ≡ 0
  pub longer : is_longer (shape_of m) ≡ true

-- ---- the SA payload of a message in a longer shape

count-more : (count : ℕ) → is_longer count ≡ true → 1 < count
unfolding is_longer
count-more count h =
    by_test (eqb count 3) (λ e. omega (arith, eqb-true count 3 e)) (λ e. omega (arith, eqb-true count 5 (rw e at h)))

picked : (t : Bool) (count : ℕ) → is_longer (if t then count otherwise 0) ≡ true → (t ≡ true) × (1 < count)
unfolding is_longer
picked true count h = (refl, count-more count h)
picked false count h = clash h

types : (count : ℕ) (m : Bytes) → is_longer (shape count m) ≡ true →
    (1 < count) × ((payload_at 0 m).payloadtype ≡ 8) × ((payload_at 1 m).payloadtype ≡ 1)
unfolding shape type_is
types count m h =
    let p = picked _ count h in
    let first = both (type_is 0 m 8) _ p.0 in
    let behind = both _ _ (rw (ne_eqb count 1 (λ z. omega arith)) at first.1) in
    let second = both (type_is 1 m 1) _ behind.0 in
    (p.1, eqb-true _ _ first.0, eqb-true _ _ second.0)

second_offers : (count : ℕ) (m : Bytes) → 1 < count → (payload_at 0 m).payloadtype ≡ 8 → (payload_at 1 m).payloadtype ≡ 1 → sa_from count 0 m ≡ body_at 1 m
unfolding sa_from
second_offers zero m some hash sa = absurd (omega arith)
second_offers (suc zero) m some hash sa = absurd (omega arith)
second_offers (suc (suc n)) m some hash sa = rw (hash, sa)

-- a body that reads is not empty
offer-some : (exchange : ℕ) (body : Bytes) → offer_code exchange body ≡ 0 → length body ≡ 0 → ⊥
unfolding offer_code
offer-some exchange body h z = omega (arith, ltb-false (length body) 8 (passed (ltb (length body) 8) 15 _ (λ e. omega arith) h).0)

module _ {m : Bytes} (l : Longer m) where
  reads : message m ≡ read.Read 32 l.count
  unfolding message_answer
  reads = payloads.answer-own (message m) (read.Read 32 l.count) l.readable

  its_types : (1 < l.count) × ((payload_at 0 m).payloadtype ≡ 8) × ((payload_at 1 m).payloadtype ≡ 1)
  unfolding shape_of count_of
  its_types = types l.count m (rw reads at l.longer)

  -- the SA payload of the message is payload 1, from which the ends choose
  pub same_body : sa_from l.count 0 m ≡ body_at 1 m
  same_body = second_offers l.count m its_types.0 its_types.1 its_types.2

  module _ {book : Bytes} (b : LawfulBook book) where
    is_lawful : book_read book ≡ books.Lawful b.main b.quick
    unfolding book_answer
    is_lawful = book-own (book_read book) (books.Lawful b.main b.quick) b.lawful

    abbrev offer : Offer book m
    offer = record {
      main = b.main;
      quick = b.quick;
      exchange = 32;
      count = l.count;
      lawful = is_lawful;
      readable = reads;
      offered = λ z. offer-some 32 (body_at 1 m) (body_reads m 32 l.count reads 1 its_types.0 its_types.2) (ap length (sym same_body) ∙ z);
    }

    -- the choice of the responder is the choice of the library
    pub same-choice : choose_from 32 book (body_at 1 m) ≡ choice book m
    same-choice = ap (choose_from 32 book) (sym same_body) ∙ sym (choice-is book m offer)

    fourteen_none : choose_from 32 book (body_at 1 m) ≡ choices.Refused 14 → NoneSuits 32 book (body_at 1 m)
    fourteen_none e = subst (NoneSuits 32 book) same_body (fourteen_means_none book m offer (sym same-choice ∙ e))

    none_fourteen : NoneSuits 32 book (body_at 1 m) → choose_from 32 book (body_at 1 m) ≡ choices.Refused 14
    none_fourteen f = same-choice ∙ none_means_fourteen book m offer (subst (NoneSuits 32 book) (sym same_body) f)

-- ---- the premise: an end chooses exactly when some offered set suits some line of its book

module _ {m : Bytes} (l : Longer m) (own : Own) (b : LawfulBook (book_of own)) where
  abbrev best : (choice (book_of own) m ≡ choices.Refused 14 → ⊥) → Best 32 (book_of own) (body_at 1 m) (choice (book_of own) m)
  best d = subst (λ (s : Bytes). Best 32 (book_of own) s (choice (book_of own) m)) (same_body l) (chosen-best (book_of own) m (offer l b) d)

  pub chooses-suits : Chooses own m → SomeSuits 32 (book_of own) (body_at 1 m)
  chooses-suits s =
      let c = s.chosen in
      let same = same-choice l b in
      let x = best (λ e. never (cc)) in
      record { k = x.k; i = x.i; a_set = x.a_set; a_line = x.a_line; suits = x.suits }

  pub suits-chooses : SomeSuits 32 (book_of own) (body_at 1 m) → Chooses own m
  suits-chooses u =
      let x = best (λ e. fourteen_none l b (same-choice l b ∙ e) u.k u.i u.a_set u.a_line u.suits) in
      let answers = ap choice_answer (same-choice l b) ∙ x.answered in
      suits-unrefused own m (λ number e. let some = ap (λ (a : Answer). a.values) (sym answers ∙ e) in never (cc))

-- ---- the delivery of message one

readable_of : (own : Own) (state : State) (id : ℕ) (m : Bytes) (r : Message) → message m ≡ r → read_code own state id m r ≡ 0 →
    (count : ℕ) × (message m ≡ read.Read 32 count)
unfolding read_code quick_code
readable_of own state id m (read.Refused number) e h = absurd (omega (arith, refusal_some m number e))
readable_of own state id m (read.Read exchange count) e h =
    let is = passed (not (eqb exchange 32)) 7 _ (λ z. omega arith) h in
    (count, e ∙ ap (λ (x : ℕ). read.Read x count) (eqb-true exchange 32 (not-false (eqb exchange 32) is.0)))

module _ {p : Party} {m : Bytes} {holds : Bool} {output : Bytes} (one : MessageOne p m holds output) where
  is-longer : Longer m
  unfolding delivery_code message_answer
  is-longer =
      let room = passed (small p.sent p.got output) 8192 _ (λ z. omega arith) one.passes in
      let hash = passed (not holds) 23 _ (λ z. omega arith) room.1 in
      let up = passed (is_given_up (state_of p)) 8196 _ (λ z. omega arith) hash.1 in
      let reads = readable_of p.end.own (state_of p) p.end.progress.id m (message m) refl up.1 in
      record { count = reads.0; readable = ap message_answer reads.1; longer = one.longer }

  chooses_then : called p (deliver m holds output) ≡ after_choice p.end m p.sent p.got output (choose_from 32 (book_of p.end.own) (body_at 1 m))
  unfolding called delivered at_responder
  chooses_then =
      let passes = eq-eqb (delivery_code p.end holds m (small p.sent p.got output)) 0 one.passes in
      rw (passes, second_is p.end.own.role one.is-responder, one.is-idle, one.longer)

  answer-of : (c : Choice) → step_answer (after_choice p.end m p.sent p.got output c).step.answer ≡ refused 14 → c ≡ choices.Refused 14
  unfolding step_answer after_choice halfway
  answer-of (choices.Refused number) e = ap choices.Refused (ap (λ (a : Answer). a.number) e)
  answer-of (choices.Chosen number line transforms) e = absurd (omega (arith, ap (λ (a : Answer). a.number) e))

  refuses_then : choose_from 32 (book_of p.end.own) (body_at 1 m) ≡ choices.Refused 14 →
      step_answer (called p (deliver m holds output)).step.answer ≡ refused 14
  unfolding step_answer after_choice
  refuses_then e = rw (chooses_then, e)

  -- it answers 14 exactly when no offered set suits any line of its book
  module _ (b : LawfulBook (book_of p.end.own)) where
    pub fourteen_none-suits : step_answer (called p (deliver m holds output)).step.answer ≡ refused 14 → NoneSuits 32 (book_of p.end.own) (body_at 1 m)
    fourteen_none-suits e = fourteen_none is-longer b (answer-of _ (rw chooses_then at e))

    pub none-suits_fourteen : NoneSuits 32 (book_of p.end.own) (body_at 1 m) → step_answer (called p (deliver m holds output)).step.answer ≡ refused 14
    none-suits_fourteen f = refuses_then (none_fourteen is-longer b f)

-- ---- the two ends of an exchange: the responder's book is lawful, and message one has a longer shape

lawful-of : (book : Bytes) → book_in_front book ≡ true → book_size book ≡ length book → LawfulBook book
unfolding book_read book_answer
lawful-of book front whole = record { main = main_count book; quick = quick_count book; lawful = rw (front, eq-eqb (book_size book) (length book) whole) }

module _ {w : World} (fresh : Fresh w) where
  second-lawful : LawfulBook (book_of w.responder.end.own)
  second-lawful =
      let given = fresh_fit Responder fresh.icookie fresh.rcookie w.responder.end fresh.icookie-fits fresh.rcookie-fits fresh.second in
      lawful-of _ given.fit.book.0 given.fit.book.1

  module _ (b : Beginning w) where
    one-is : Longer (one_of b)
    unfolding message_answer
    one-is = let l = liveness.one-longer fresh b in record { count = l.0; readable = ap message_answer l.1; longer = l.2 }

    -- the premise is met exactly when some set of message one suits some line of the responder's book
    pub premise_means : Chooses w.responder.end.own (one_of b) → SomeSuits 32 (book_of w.responder.end.own) (body_at 1 (one_of b))
    premise_means s = chooses-suits one-is w.responder.end.own second-lawful s

    pub premise_met : SomeSuits 32 (book_of w.responder.end.own) (body_at 1 (one_of b)) → Chooses w.responder.end.own (one_of b)
    premise_met u = suits-chooses one-is w.responder.end.own second-lawful u

  -- and so it is at every moment of an exchange, whatever was delivered before
  module _ {u : World} (run : Run w u) {m : Bytes} {holds : Bool} {output : Bytes} (one : MessageOne u.responder m holds output) where
    still_lawful : LawfulBook (book_of u.responder.end.own)
    still_lawful = subst (λ (own : Own). LawfulBook (book_of own)) (sym (liveness.own-run fresh run).1) second-lawful

    pub fourteen_at-responder : step_answer (called u.responder (deliver m holds output)).step.answer ≡ refused 14 →
        NoneSuits 32 (book_of u.responder.end.own) (body_at 1 m)
    fourteen_at-responder e = fourteen_none-suits one still_lawful e

    pub none-at-responder : NoneSuits 32 (book_of u.responder.end.own) (body_at 1 m) →
        step_answer (called u.responder (deliver m holds output)).step.answer ≡ refused 14
    none-at-responder f = none-suits_fourteen one still_lawful f
