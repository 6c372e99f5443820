-- What is told of a step is told of one step only.
use Rattle.std.specs.Prelude.{◌≡◌, refl}
use Rattle.std.proofs.Common.{sym, ap, ◌∙◌}
use Rattle.refusal.proofs.Laws.{refusal_of, refusal_of-number}
use Rattle.quick_step.specs.declared.StepAnswer.{StepAnswer as Given}
use Rattle.quick_step.specs.declared.StepAnswer.TheVariants as given
use Rattle.quick_step.specs.declared.Stepped.{Stepped as Step}
use Rattle.quick_step.specs.Steps.{StepAnswer, Send, Nothing, Refused, Stepped, answer_told, stepped_told}

-- the answer, and the step, of which this is told
abbrev answer_of : (told : StepAnswer) → Given
answer_of (Send size) = given.Send size
answer_of Nothing = given.Nothing
answer_of (Refused number) = given.Refused (refusal_of number)

answer_of-told : (answer : Given) → answer_of (answer_told answer) ≡ answer
answer_of-told (given.Send size) = refl
answer_of-told given.Nothing = refl
answer_of-told (given.Refused refusal) = ap given.Refused (refusal_of-number refusal)

abbrev pub step_of : (told : Stepped) → Step
step_of told = record { end = told.end; answer = answer_of told.answer }

step_of-told : (step : Step) → step_of (stepped_told step) ≡ step
step_of-told step = ap (λ (answer : Given). record { end = step.end; answer = answer }) (answer_of-told step.answer)

-- and with it what a step leaves of the buffers
pub step-same : {A : Type 0} (x y : Step) (a b : A) → ◌≡◌ {A = Step × A} (step_of (stepped_told x), a) (step_of (stepped_told y), b) →
    ◌≡◌ {A = Step × A} (x, a) (y, b)
step-same x y a b same = rw (← step_of-told x, ← step_of-told y) same
