-- Kept buffers: what a call answers and leaves hangs on the messages that the kept buffers hold, and not on what lies behind these. So an
-- end that is lent a longer or a shorter buffer of full size, with the same front, does the same at that call, and keeps the same messages.
use Rattle.std.specs.Prelude.{ℕ, min, ◌+◌, ◌≤◌, ◌≡◌, Bool, not, ◌||◌, length, take, drop, ltb}
use Rattle.std.proofs.Common.{sym, ap, ◌∙◌, arith, take-append-drop, length-take-le}
use Rattle.std.proofs.Math.Dec.{eqb}
use Rattle.wire_read.specs.Wire.{Bytes}
use Rattle.wire_read.proofs.Tests.{by_test}
use Rattle.wire_write.specs.Put.{paste}
use Rattle.wire_write.proofs.Laws.{paste-append, take-paste, paste_inside}
use Rattle.policy_choice.specs.Choice.{Choice}
use Rattle.policy_choice.specs.Choice as choices
use Rattle.quick_end.specs.Fresh.{is_initiator}
use Rattle.quick_shape.specs.Shapes.{is_longer, alike, shape_of}
use Rattle.quick_taken.specs.Taken.{taken_code}
use Rattle.quick_step.specs.Steps.{After, small, kept, with_state}
use Rattle.quick_begin.specs.Begin.{begin_code, begun}
use Rattle.quick_tick.specs.Tick.{is_open, tick_code, one_more, ticked}
use Rattle.quick_deliver.specs.Deliver.{delivery_code, opened, at_initiator, halfway, after_choice, at_responder, delivered}
use Rattle.quick_end.specs.declared.End.{End}
use Rattle.quick_end.specs.declared.State.{State}
use Rattle.quick_end.specs.declared.State.TheVariants.{Idle, Sent, Half, Open, GivenUp}
use Rattle.quick_step.specs.Steps.{Stepped}
use Rattle.quick_exchange.specs.Exchange.{Party, Call, begin, deliver, tick, called, left, sent_of, got_of, FullSize}
use Rattle.quick_exchange.proofs.Moves.{not-small}

-- p, lent other kept buffers
abbrev pub lent : (p : Party) (sent got : Bytes) → Party
lent p sent got = record { end = p.end; sent = sent; got = got }

-- they are of full size, as p's are, and hold the same messages
pub record SameFront (p : Party) (sent got output : Bytes) : Type 0 where
  pub same_sent : sent_of (lent p sent got) ≡ sent_of p
  pub same-got : got_of (lent p sent got) ≡ got_of p
  pub full : FullSize p output
  pub full-other : FullSize (lent p sent got) output

-- what a call answers and leaves: the answer and the record, the two messages that are kept then, the output
pub record Seen : Type 0 where
  pub step : Stepped
  pub sent : Bytes
  pub got : Bytes
  pub output : Bytes

abbrev pub seen : (after : After) → Seen
seen after = record { step = after.step; sent = sent_of (left after); got = got_of (left after); output = after.output }

abbrev pub output_of : (call : Call) → Bytes
output_of (begin id first second output) = output
output_of (deliver m holds output) = output
output_of (tick output) = output

-- ---- proofs

-- what is kept of a message that was written does not hang on the buffer
written_front : (l m : Bytes) (n : ℕ) → n ≤ length m → n ≤ length l → take n (paste l 0 m) ≡ take n m
written_front l m n short room =
    let size : length (take n m) ≡ n = length-take-le n m short in
    ap (λ (xs : Bytes). take n (paste l 0 xs)) (sym (take-append-drop n m))
    ∙ ap (take n) (sym (paste-append l 0 (take n m) (drop n m)))
    ∙ take-paste n (paste l 0 (take n m)) (0 + length (take n m)) (drop n m) (omega (arith, size))
    ∙ ap (λ (k : ℕ). take k (paste l 0 (take n m))) (sym size) ∙ paste_inside l 0 (take n m) (omega (arith, size))

kept_front : (l other m : Bytes) → 2048 ≤ length l → 2048 ≤ length other → kept (length m) (paste other 0 m) ≡ kept (length m) (paste l 0 m)
unfolding kept
kept_front l other m room room-other =
    written_front other m (min (length m) 2048) (omega arith) (omega arith) ∙ sym (written_front l m (min (length m) 2048) (omega arith) (omega arith))

module _ (p : Party) (sent got output : Bytes) (same : SameFront p sent got output) where
  abbrev end : End
  end = p.end

  es : kept end.progress.sentsize sent ≡ kept end.progress.sentsize p.sent
  es = same.same_sent

  eg : kept end.progress.gotsize got ≡ kept end.progress.gotsize p.got
  eg = same.same-got

  in_sent : (m : Bytes) → kept (length m) (paste sent 0 m) ≡ kept (length m) (paste p.sent 0 m)
  in_sent m = kept_front p.sent sent m same.full.in_sent same.full-other.in_sent

  in_got : (m : Bytes) → kept (length m) (paste got 0 m) ≡ kept (length m) (paste p.got 0 m)
  in_got m = kept_front p.got got m same.full.in_got same.full-other.in_got

  module _ (m : Bytes) where
    at-initiator : (state : State) → seen (at_initiator end m sent got output state) ≡ seen (at_initiator end m p.sent p.got output state)
    unfolding at_initiator opened
    at-initiator Sent =
        by_test (not (is_longer (shape_of m))) (λ e. rw (e, es, eg))
        (λ e. by_test (not (eqb (taken_code (shape_of m) (kept end.progress.sentsize p.sent) m) 0)) (λ f. rw (e, es, f) (rw (es, eg)))
        (λ f. rw (e, es, f, in_sent _, in_got _)))
    at-initiator Open = by_test (alike m (kept end.progress.gotsize p.got)) (λ e. rw (eg, e) (rw (es, eg))) (λ e. rw (eg, e) (rw (es, eg)))
    at-initiator Idle = rw (es, eg)
    at-initiator Half = rw (es, eg)
    at-initiator GivenUp = rw (es, eg)

    after-choice : (choice : Choice) → seen (after_choice end m sent got output choice) ≡ seen (after_choice end m p.sent p.got output choice)
    unfolding after_choice halfway
    after-choice (choices.Refused number) = rw (es, eg)
    after-choice (choices.Chosen number line transforms) = rw (in_sent _, in_got _)

    at-responder : (state : State) → seen (at_responder end m sent got output state) ≡ seen (at_responder end m p.sent p.got output state)
    unfolding at_responder with_state
    at-responder Idle = by_test (not (is_longer (shape_of m))) (λ e. rw (e, es, eg)) (λ e. rw e (after-choice _))
    at-responder Half =
        by_test (alike m (kept end.progress.gotsize p.got)) (λ e. rw (eg, e) (rw (es, eg)))
        (λ e. by_test (eqb (shape_of m) 1) (λ f. rw (eg, e, f) (rw (es, eg))) (λ f. rw (eg, e, f) (rw (es, eg))))
    at-responder Open = by_test (alike m (kept end.progress.gotsize p.got) || eqb (shape_of m) 1) (λ e. rw (eg, e) (rw (es, eg))) (λ e. rw (eg, e) (rw (es, eg)))
    at-responder Sent = rw (es, eg)
    at-responder GivenUp = rw (es, eg)

  room : small sent got output ≡ small p.sent p.got output
  room = not-small (lent p sent got) output same.full-other ∙ sym (not-small p output same.full)

  begins : (id : ℕ) (first second : Bytes) → seen (begun end id first second sent got output) ≡ seen (begun end id first second p.sent p.got output)
  unfolding begun
  begins id first second =
      by_test (eqb (begin_code end id first second (small p.sent p.got output)) 0) (λ e. rw (room, e, in_sent _, eg)) (λ e. rw (room, e, es, eg))

  ticks : seen (ticked end sent got output) ≡ seen (ticked end p.sent p.got output)
  unfolding ticked with_state one_more
  ticks =
      by_test (not (eqb (tick_code end.progress.state (small p.sent p.got output)) 0)) (λ e. rw (room, e, es, eg))
      (λ e. by_test (is_open end.progress.state) (λ f. rw (room, e, f, es, eg))
      (λ f. by_test (ltb end.progress.sends 4) (λ g. rw (room, e, f, g, es, eg)) (λ g. rw (room, e, f, g, es, eg))))

  delivers : (m : Bytes) (holds : Bool) → seen (delivered end holds m sent got output) ≡ seen (delivered end holds m p.sent p.got output)
  unfolding delivered
  delivers m holds =
      by_test (not (eqb (delivery_code end holds m (small p.sent p.got output)) 0)) (λ e. rw (room, e, es, eg))
      (λ e. by_test (is_initiator end.own.role) (λ f. rw (room, e, f) (at-initiator m end.progress.state))
      (λ f. rw (room, e, f) (at-responder m end.progress.state)))

-- a call of an end that is lent buffers with the same front: the same answer and record, the same messages kept, the same output
pub same_front : (p : Party) (sent got : Bytes) (call : Call) → SameFront p sent got (output_of call) → seen (called (lent p sent got) call) ≡ seen (called p call)
unfolding called
same_front p sent got (begin id first second output) same = begins p sent got output same id first second
same_front p sent got (deliver m holds output) same = delivers p sent got output same m holds
same_front p sent got (tick output) same = ticks p sent got output same
