-- Quick mode ends: a refusal changes neither the record nor a lent buffer, no two answers of a step have the same number and values, and
-- every message that an end writes is readable.
use Rattle.std.specs.Prelude.{ℕ, ◌≡◌, List, [], ◌∷◌, Bool, not, ◌||◌, length, get_or, take}
use Rattle.std.proofs.Math.Path.{refl, ap}
use Rattle.std.proofs.Common.{sym, ◌∙◌}
use Rattle.std.proofs.Math.Dec.{eqb}
use Rattle.wire_read.specs.Wire.{Bytes}
use Rattle.wire_read.specs.Tests.{if◌then◌otherwise◌}
use Rattle.wire_read.specs.Answer.{Answer, done, refused}
use Rattle.wire_read.proofs.Tests.{never, by_test}
use Rattle.policy_choice.specs.Choice.{Choice}
use Rattle.policy_choice.specs.Choice as choices
use Rattle.quick_end.specs.Fresh.{is_initiator}
use Rattle.quick_shape.specs.Shapes.{is_longer, alike, shape_of}
use Rattle.quick_taken.specs.Taken.{taken_code}
use Rattle.quick_step.specs.Steps.{After, kept, refusing, step_answer}
use Rattle.quick_begin.specs.Begin.{begun}
use Rattle.quick_tick.specs.Tick.{ticked}
use Rattle.quick_deliver.specs.Deliver.{opened, at_initiator, halfway, after_choice, at_responder, delivered}
use Rattle.quick_end.specs.declared.End.{End}
use Rattle.quick_end.specs.declared.State.{State}
use Rattle.quick_end.specs.declared.State.TheVariants.{Idle, Sent, Half, Open, GivenUp}
use Rattle.quick_step.specs.Steps.{StepAnswer}
use Rattle.quick_step.specs.Steps.{Send, Nothing, Refused}
use Rattle.quick_exchange.specs.Exchange.{Party, said, World, Run, Fresh}
use Rattle.quick_exchange.specs.Readable.{AllReadable}
use Rattle.quick_exchange.proofs.Moves.{refused-is, by-begin, by-tick, by-delivery}
use Rattle.quick_exchange.proofs.Written.{all-readable}

module _ (end : End) (sent got output : Bytes) where
  -- what a call leaves: where it is a refusal, all is as it was; and what the end was made with always is
  pub record Unchanged (after : After) : Type 0 where
    pub as_it_was : (number : ℕ) → step_answer after.step.answer ≡ refused number → after ≡ refusing end sent got output number
    pub own-kept : after.step.end.own ≡ end.own

  refuses : (number : ℕ) → Unchanged (refusing end sent got output number)
  refuses number = record {
    as_it_was = λ n e. let is = refused-is (Refused number) n e in let same : number ≡ n = cc in ap (refusing end sent got output) same;
    own-kept = refl;
  }

  sends : (after : After) (size : ℕ) → after.step.answer ≡ Send size → after.step.end.own ≡ end.own → Unchanged after
  sends after size h own = record { as_it_was = λ n e. let is = refused-is after.step.answer n e in never (cc); own-kept = own }

  quiet : (after : After) → after.step.answer ≡ Nothing → after.step.end.own ≡ end.own → Unchanged after
  quiet after h own = record { as_it_was = λ n e. let is = refused-is after.step.answer n e in never (cc); own-kept = own }

  abbrev itself : Party
  itself = record { end = end; sent = sent; got = got }

  pub begin-refused : (id : ℕ) (first second : Bytes) → Unchanged (begun end id first second sent got output)
  begin-refused id first second = by-begin itself output Unchanged refuses id first second (λ b. sends _ _ refl refl)

  pub tick-refused : Unchanged (ticked end sent got output)
  tick-refused = by-tick itself output Unchanged refuses (λ q. quiet _ refl refl) (λ room w. sends _ _ refl refl) (λ w. quiet _ refl refl)

  module _ (m : Bytes) where
    initiator-refused : (state : State) → Unchanged (at_initiator end m sent got output state)
    unfolding at_initiator opened
    initiator-refused Sent =
        by_test (not (is_longer (shape_of m))) (λ e. rw e (refuses _))
        (λ e. by_test (not (eqb (taken_code (shape_of m) (kept end.progress.sentsize sent) m) 0)) (λ f. rw (e, f) (refuses _))
        (λ f. rw (e, f) (sends _ _ refl refl)))
    initiator-refused Open = by_test (alike m (kept end.progress.gotsize got)) (λ e. rw e (sends _ _ refl refl)) (λ e. rw e (refuses _))
    initiator-refused Idle = refuses _
    initiator-refused Half = refuses _
    initiator-refused GivenUp = refuses _

    after-choice-refused : (choice : Choice) → Unchanged (after_choice end m sent got output choice)
    unfolding after_choice halfway
    after-choice-refused (choices.Refused number) = refuses _
    after-choice-refused (choices.Chosen number line transforms) = sends _ _ refl refl

    responder-refused : (state : State) → Unchanged (at_responder end m sent got output state)
    unfolding at_responder
    responder-refused Idle = by_test (not (is_longer (shape_of m))) (λ e. rw e (refuses _)) (λ e. rw e (after-choice-refused _))
    responder-refused Half =
        by_test (alike m (kept end.progress.gotsize got)) (λ e. rw e (sends _ _ refl refl))
        (λ e. by_test (eqb (shape_of m) 1) (λ f. rw (e, f) (quiet _ refl refl)) (λ f. rw (e, f) (refuses _)))
    responder-refused Open = by_test (alike m (kept end.progress.gotsize got) || eqb (shape_of m) 1) (λ e. rw e (quiet _ refl refl)) (λ e. rw e (refuses _))
    responder-refused Sent = refuses _
    responder-refused GivenUp = refuses _

    pub delivery-refused : (holds : Bool) → Unchanged (delivered end holds m sent got output)
    delivery-refused holds =
        by-delivery itself output Unchanged refuses m holds
        (λ room h. by_test (is_initiator end.own.role) (λ f. rw f (initiator-refused end.progress.state))
        (λ f. rw f (responder-refused end.progress.state)))

-- ---- no two answers of a step have the same number and values

abbrev meant : (a : Answer) → StepAnswer
meant a = if eqb (length a.values) 0 then Refused a.number otherwise if eqb (length a.values) 1 then Nothing otherwise Send (get_or a.values 1 0)

meant-answer : (x : StepAnswer) → meant (step_answer x) ≡ x
unfolding step_answer
meant-answer (Send size) = refl
meant-answer Nothing = refl
meant-answer (Refused number) = refl

pub step-own : (x y : StepAnswer) → step_answer x ≡ step_answer y → x ≡ y
step-own x y h = sym (meant-answer x) ∙ ap meant h ∙ meant-answer y

-- what counts as written in an exchange, by these numbers and values
module _ (x : StepAnswer) (output : Bytes) (log : List Bytes) where
  pub sent-written : (size : ℕ) → step_answer x ≡ done (1 ∷ size ∷ []) → said x output log ≡ take size output ∷ log
  unfolding step_answer
  sent-written size e = ap (λ (y : StepAnswer). said y output log) (step-own x (Send size) e)

  pub nothing_written : step_answer x ≡ done (0 ∷ []) → said x output log ≡ log
  unfolding step_answer
  nothing_written e = ap (λ (y : StepAnswer). said y output log) (step-own x Nothing e)

  pub refused_unwritten : (number : ℕ) → step_answer x ≡ refused number → said x output log ≡ log
  refused_unwritten number e = ap (λ (y : StepAnswer). said y output log) (refused-is x number e)

-- every message that an end writes is readable, has at most 2,048 bytes, and is padded with fewer than 16 zero bytes: at every moment of an
-- exchange, whatever was delivered
pub written-readable : {w u : World} → Fresh w → Run w u → AllReadable u.from_initiator × AllReadable u.from_responder
written-readable f k = all-readable f k
