-- What the calls on a lent quick mode end leave.
use Rattle.std.specs.Prelude.{ℕ, List, [], ◌∷◌, ◌++◌, Bool, true, false, length, eqb}
use Rattle.wire_read.specs.Wire.{Bytes}
use Rattle.wire_read.specs.Tests.{if◌then◌otherwise◌}
use Rattle.wire_read.specs.Answer.{Answer, done, refused}
use Rattle.wire_write.specs.Put.{paste}
use Rattle.quick_end.specs.declared.Role.{Role}
use Rattle.quick_end.specs.declared.Role.TheVariants.{Initiator, Responder}
use Rattle.quick_end.specs.declared.Agreed.{Agreed}
use Rattle.quick_end.specs.declared.Progress.{Progress}
use Rattle.quick_end.specs.Fresh.{Made}
use Rattle.quick_step.specs.Steps.{StepAnswer}
use Rattle.quick_step.specs.Steps.{Send, Nothing, Refused}
use Rattle.quick_step.specs.Steps.{Stepped}
use Rattle.quick_step.specs.Steps.{After, step_answer}
use Rattle.exports_words.specs.Given.{left}
use Rattle.exports_end.specs.Ends.{state_number, transforms_values, spis_values, progress_bytes, end_bytes}

unfoldable pub role_by : (initiator : Bool) → Role
role_by true = Initiator
role_by false = Responder

-- the number, and the lent end: a refusal leaves it as it was
unfoldable pub fresh_called : (end : Bytes) (made : Made) → ℕ × Bytes
fresh_called end made = (made.number, if eqb made.number 0 then paste end 0 (end_bytes made.end) otherwise end)

-- ---- a step

-- the lent end after a step: what it was given once never changes, and a refusal changes nothing
unfoldable pub end_after : (end : Bytes) (progress : Progress) (answer : StepAnswer) → Bytes
end_after end progress (Send size) = paste end 0 (progress_bytes progress)
end_after end progress Nothing = paste end 0 (progress_bytes progress)
end_after end progress (Refused number) = end

-- the number, the lent end and the words
unfoldable pub finished : (end : Bytes) (out : List ℕ) (step : Stepped) → ℕ × Bytes × List ℕ
finished end out step =
    ((step_answer step.answer).number, end_after end step.end.progress step.answer, left 2 (step_answer step.answer).values out)

pub record Called : Type 0 where
  pub number : ℕ
  pub end : Bytes
  pub out : List ℕ
  pub sent : Bytes
  pub got : Bytes
  pub output : Bytes

unfoldable pub called : (end : Bytes) (out : List ℕ) (after : After) → Called
called end out after = record {
  number = (finished end out after.step).0;
  end = (finished end out after.step).1;
  out = (finished end out after.step).2;
  sent = after.sent;
  got = after.got;
  output = after.output;
}

-- ---- what an end holds

unfoldable pub state_answer : (progress : Progress) → Answer
state_answer progress = done (state_number progress.state ∷ progress.sends ∷ progress.sentsize ∷ progress.gotsize ∷ [])

unfoldable pub agreed_values : (agreed : Agreed) → List ℕ
agreed_values agreed = agreed.set.0 ∷ transforms_values agreed.transforms ++ spis_values agreed.initiator ++ spis_values agreed.responder

-- nothing is agreed before a message was got
unfoldable pub agreed_answer : (progress : Progress) → Answer
agreed_answer progress = if eqb progress.gotsize 0 then refused 8195 otherwise done (agreed_values progress.agreed)

-- ---- a nonce

-- the number, the word and the lent buffer
unfoldable pub nonce_called : (nonce buffer : Bytes) → ℕ × List ℕ × Bytes
nonce_called nonce buffer = (0, length nonce ∷ [], paste buffer 0 nonce)
