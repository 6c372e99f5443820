-- Demand three, sentence by sentence, over the exchange as crates/quick_exchange/specs/Exchange.antt has it: for every two ends that start
-- fresh with the same cookies, every order of calls and every network. The one premise is `Fair` there.
use Rattle.std.specs.Prelude.{ℕ, ◌≤◌, ◌≡◌, refl, ◌⊎◌, length}
use Rattle.std.proofs.Common.{ap, ◌∙◌}
use mathlib.Core.List.{List, [], ◌∷◌}
use Rattle.wire_read.specs.Wire.{Bytes}
use Rattle.wire_read.specs.Answer.{done, refused}
use Rattle.sa_fields.specs.declared.ProposalNumber.{ProposalNumber}
use Rattle.policy_choice.specs.Choice.{body_at, choose_from, choice_answer}
use Rattle.policy_lines.specs.declared.LineNumber.{LineNumber}
use Rattle.policy_choice.specs.declared.Transforms.{Transforms}
use Rattle.policy_choice.specs.declared.Transforms.TheVariants.{One, Two}
use Rattle.policy_choice.specs.Choice.{Choice}
use Rattle.policy_choice.specs.Choice as choices
use Rattle.quick_write.specs.Messages.{book_of, nonce_of}
use Rattle.quick_shape.specs.Shapes.{nonce}
use Rattle.quick_step.specs.Steps.{step_answer}
use Rattle.quick_end.specs.declared.Role.TheVariants.{Initiator, Responder}
use Rattle.quick_end.specs.declared.State.{State}
use Rattle.quick_end.specs.declared.State.TheVariants.{Half, Open, GivenUp}
use Rattle.quick_end.specs.declared.Own.{Own}
use Rattle.quick_exchange.specs.Exchange.{begin, called, World, at_first, at_second, step, Fair, Run, Fresh, state_of, sent_of, got_of, agreed_of, Same, Only, Then, Beginning, begin_call, after_begin, Chooses, one_of, two_of, three_of, Arrives, delivery, chosen_set, SameContent, GivenFor}
use Rattle.quick_exchange.proofs.Fresh.{Holds, fresh_fit}
use Rattle.quick_exchange.proofs.Moves.{begin_shut}
use Rattle.quick_exchange.proofs.Safety.{always, open_both, same-both, content-both}
use Rattle.quick_exchange.proofs.Liveness as liveness
use Rattle.quick_exchange.proofs.Example as example

-- "An open end stays open with the same values": its record and its kept buffers stay as they are.
pub open_stays : {u z : World} → Run u z →
    (state_of u.initiator ≡ Open → z.initiator ≡ u.initiator) × (state_of u.responder ≡ Open → z.responder ≡ u.responder)
open_stays k = liveness.open_run k

-- "the responder's policy suits the offer", by the choice's number and values: it does where the choice is no refusal, and the choice is then
-- done with the set's number and the line's
module _ (own : Own) (m : Bytes) where
  chooses_as : (chosen : Choice) → choose_from 32 (book_of own) (body_at 1 m) ≡ chosen →
      ((number : ℕ) → choice_answer chosen ≡ refused number → ⊥) → Chooses own m
  unfolding choice_answer
  chooses_as (choices.Refused number) e unrefused = absurd (unrefused number refl)
  chooses_as (choices.Chosen number line transforms) e unrefused = record { number = number; line = line; transforms = transforms; chosen = e }

  pub suits-unrefused : ((number : ℕ) → choice_answer (choose_from 32 (book_of own) (body_at 1 m)) ≡ refused number → ⊥) → Chooses own m
  suits-unrefused unrefused = chooses_as (choose_from 32 (book_of own) (body_at 1 m)) refl unrefused

  choice-values : (number : ProposalNumber) (line : LineNumber) (transforms : Transforms) →
      (numbers : List ℕ) × (choice_answer (choices.Chosen number line transforms) ≡ done (number.0 ∷ line.0 ∷ numbers))
  unfolding choice_answer
  choice-values number line (One t) = (t.0 ∷ [], refl)
  choice-values number line (Two t u) = (t.0 ∷ u.0 ∷ [], refl)

  pub suits-done : (s : Chooses own m) →
      (numbers : List ℕ) × (choice_answer (choose_from 32 (book_of own) (body_at 1 m)) ≡ done (s.number.0 ∷ s.line.0 ∷ numbers))
  suits-done s = rw s.chosen (choice-values s.number s.line s.transforms)

module _ {w : World} (fresh : Fresh w) where
  -- "At every moment: if the responder is open, so is the initiator."
  pub open_at-both : {u : World} → Run w u → state_of u.responder ≡ Open → state_of u.initiator ≡ Open
  open_at-both k q = open_both fresh k q

  -- "If the initiator is open, the responder has the same proposal set, transforms, SPIs and nonces, and where it isn't open its own state is
  -- Half or GivenUp."
  pub same-at-both : {u : World} → Run w u → state_of u.initiator ≡ Open →
      Same u.initiator u.responder × ((state_of u.responder ≡ Open) ⊎ (state_of u.responder ≡ Half) ⊎ (state_of u.responder ≡ GivenUp))
  same-at-both k q = same-both fresh k q

  -- "the same proposal set, transforms", byte for byte: the initiator took from message two what the responder chose from its offer
  pub same-content : {u : World} → Run w u → state_of u.initiator ≡ Open → SameContent u.initiator u.responder
  same-content k q = (content-both fresh k q).0

  -- what the two were given
  first_holds : Holds Initiator fresh.icookie fresh.rcookie fresh.first.ah fresh.first.esp fresh.first.nonce w.initiator.end
  first_holds = fresh_fit Initiator fresh.icookie fresh.rcookie w.initiator.end fresh.icookie-fits fresh.rcookie-fits fresh.first

  second_holds : Holds Responder fresh.icookie fresh.rcookie fresh.second.ah fresh.second.esp fresh.second.nonce w.responder.end
  second_holds = fresh_fit Responder fresh.icookie fresh.rcookie w.responder.end fresh.icookie-fits fresh.rcookie-fits fresh.second

  -- the SPIs of both records are those that the two were given: the initiator's first, in its own record and in the responder's, then the
  -- responder's
  pub spis_given : {u : World} → Run w u → state_of u.initiator ≡ Open →
      GivenFor fresh.first.ah fresh.first.esp (chosen_set u.responder) (agreed_of u.initiator).initiator ×
      GivenFor fresh.first.ah fresh.first.esp (chosen_set u.responder) (agreed_of u.responder).initiator ×
      GivenFor fresh.second.ah fresh.second.esp (chosen_set u.responder) (agreed_of u.initiator).responder ×
      GivenFor fresh.second.ah fresh.second.esp (chosen_set u.responder) (agreed_of u.responder).responder
  spis_given {u} k q =
      let same = (same-both fresh k q).0 in
      let own = liveness.own-run fresh k in
      let given = content-both fresh k q in
      let first-ah = ap (λ (o : Own). o.ah) own.0 ∙ first_holds.its_ah in
      let first-esp = ap (λ (o : Own). o.esp) own.0 ∙ first_holds.its_esp in
      let second-ah = ap (λ (o : Own). o.ah) own.1 ∙ second_holds.its_ah in
      let second-esp = ap (λ (o : Own). o.esp) own.1 ∙ second_holds.its_esp in
      let first = (rw (first-ah, first-esp) at given).1 in
      let second = (rw (second-ah, second-esp) at given).2 in (
        rw (← same.same-initiator) first,
        first,
        rw (← same.same-responder) second,
        second,
      )

  -- and none of these is below 256, so that a record of zeros is none
  pub spis_high : (256 ≤ fresh.first.ah) × (256 ≤ fresh.first.esp) × (256 ≤ fresh.second.ah) × (256 ≤ fresh.second.esp)
  spis_high = (
    rw (← first_holds.its_ah) first_holds.fit.ah.0,
    rw (← first_holds.its_esp) first_holds.fit.esp.0,
    rw (← second_holds.its_ah) second_holds.fit.ah.0,
    rw (← second_holds.its_esp) second_holds.fit.esp.0,
  )

  -- the nonces are those that the two were given
  pub nonces_given : {u : World} → Run w u → state_of u.initiator ≡ Open →
      (nonce Initiator (got_of u.responder) (sent_of u.responder) ≡ fresh.first.nonce) ×
      (nonce Responder (got_of u.responder) (sent_of u.responder) ≡ fresh.second.nonce)
  nonces_given k q =
      let same = (same-both fresh k q).0 in
      let own = liveness.own-run fresh k in
      (same.initiator-nonce ∙ ap nonce_of own.0 ∙ first_holds.its_nonce, same.responder-own ∙ ap nonce_of own.1 ∙ second_holds.its_nonce)

  -- "A begin that isn't refused writes message one": it answers with it, and it is the first that the initiator has written.
  pub begin_writes : (b : Beginning w) →
      (step_answer (called b.moment.initiator (begin_call b)).step.answer ≡ done (1 ∷ length (one_of b) ∷ [])) × ((after_begin b).from_initiator ≡ one_of b ∷ [])
  begin_writes b = (liveness.begin-answers fresh b, liveness.begin_writes fresh b)

  -- at the responder every begin is refused
  pub begin-at-responder : {u : World} → Run w u → (id : ℕ) (first second output : Bytes) →
      (number : ℕ) × (step_answer (called u.responder (begin id first second output)).step.answer ≡ refused number)
  begin-at-responder {u} k id first second output = begin_shut u.responder id first second output (always fresh k).pair.is-second

  -- "If the responder's policy suits the offer, hashes are good, buffers full size and neither end has given up, then .."
  module _ (b : Beginning w) (s : Chooses w.responder.end.own (one_of b)) where
    -- ".. once message one has arrived, two has been written": at every moment after that it is all that the responder has written
    pub two-written : {a z : World} → Run (after_begin b) a → (x : Arrives (one_of b) a.responder) →
        Run (step a (at_second (delivery x))) z → Only (two_of b s) z.from_responder
    two-written k x l = liveness.two_then fresh b s k x l

    -- "once two has arrived after it, three has been written": at every moment after that the initiator is open, and has written message one and
    -- then message three, nothing else
    pub three-written : {a c z : World} → Run (after_begin b) a → (x : Arrives (one_of b) a.responder) →
        Run (step a (at_second (delivery x))) c → (y : Arrives (two_of b s) c.initiator) →
        Run (step c (at_first (delivery y))) z → (state_of z.initiator ≡ Open) × Then (one_of b) (three_of b) z.from_initiator
    three-written k x l y j = liveness.three_then fresh b s k x l y j

    -- "and once three has arrived after that, both are open": at every moment after that
    pub handshake : {a c d z : World} → Run (after_begin b) a → (x : Arrives (one_of b) a.responder) →
        Run (step a (at_second (delivery x))) c → (y : Arrives (two_of b s) c.initiator) →
        Run (step c (at_first (delivery y))) d → (v : Arrives (three_of b) d.responder) →
        Run (step d (at_second (delivery v))) z → (state_of z.initiator ≡ Open) × (state_of z.responder ≡ Open)
    handshake k x l y j v i = liveness.open_then fresh b s k x l y j v i

    -- the three arrivals are ones that the premise on hashes allows: that each message was written is a conclusion
    pub arrivals_fair : {a c d : World} (k : Run (after_begin b) a) (x : Arrives (one_of b) a.responder)
        (l : Run (step a (at_second (delivery x))) c) (y : Arrives (two_of b s) c.initiator)
        (j : Run (step c (at_first (delivery y))) d) (v : Arrives (three_of b) d.responder) →
        Fair a (at_second (delivery x)) × Fair c (at_first (delivery y)) × Fair d (at_second (delivery v))
    arrivals_fair k x l y j v = (liveness.one_fair fresh b s k x, liveness.two_fair fresh b s k x l y, liveness.three_fair fresh b s k x l y j v)

-- ---- not said of nothing

-- some exchange has a moment at which the two are in these states
abbrev pub Reached : (first second : State) → Type 0
Reached first second = (w : World) × (u : World) × Fresh w × Run w u × (state_of u.initiator ≡ first) × (state_of u.responder ≡ second)

reached : {u : World} {first second : State} {from_first from_second : List Bytes} → Run example.start u → example.At u first second from_first from_second →
    Reached first second
reached {u} k at = (example.start, u, (example.computed).starts_fresh, k, example.first-is at, example.second_is at)

-- by computation: message one is lost and sent again, arrives twice with the hash bytes filled in, and both ends open
pub both_open_reached : Reached Open Open
both_open_reached = reached example.to_opened (example.computed).at-opened

-- before message three arrives, the responder is Half
pub half_reached : Reached Open Half
half_reached = reached example.to_halfway (example.computed).at-halfway

-- where message three never arrives, it gives up
pub given-up-reached : Reached Open GivenUp
given-up-reached = reached example.to_forsaken (example.computed).at_forsaken

-- all that `handshake` asks
pub record Asked : Type 0 where
  pub start : World
  pub fresh : Fresh start
  pub begins : Beginning start
  pub suits : Chooses start.responder.end.own (one_of begins)
  pub one_at : World
  pub to_one : Run (after_begin begins) one_at
  pub one : Arrives (one_of begins) one_at.responder
  pub two_at : World
  pub to_two : Run (step one_at (at_second (delivery one))) two_at
  pub two : Arrives (two_of begins suits) two_at.initiator
  pub three-at : World
  pub to_three : Run (step two_at (at_first (delivery two))) three-at
  pub three : Arrives (three_of begins) three-at.responder

-- the exchange that was computed has it all, so that `handshake` speaks of it
abbrev pub asked_met : Asked
asked_met = record {
  start = example.start;
  fresh = (example.computed).starts_fresh;
  begins = example.beginning;
  suits = example.chooses;
  one_at = example.resent;
  to_one = example.one_lost;
  one = example.one_arrives;
  two_at = example.repeated;
  to_two = example.one_again;
  two = example.two_arrives;
  three-at = example.halfway;
  to_three = example.two-taken;
  three = example.three_arrives;
}

asked_opens : (x : Asked) {z : World} → Run (step x.three-at (at_second (delivery x.three))) z →
    (state_of z.initiator ≡ Open) × (state_of z.responder ≡ Open)
asked_opens x i = handshake x.fresh x.begins x.suits x.to_one x.one x.to_two x.two x.to_three x.three i

pub handshake_met : (state_of (example.opened).initiator ≡ Open) × (state_of (example.opened).responder ≡ Open)
handshake_met = asked_opens asked_met example.three-taken
