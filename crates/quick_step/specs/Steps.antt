-- What a call of a quick mode end leaves, document 01, "Quick mode ends": the record, the answer and the lent buffers.
use Rattle.std.specs.Prelude.{ℕ, min, [], ◌∷◌, Bool, ◌||◌, length, take, ltb}
use Rattle.wire_read.specs.Wire.{Bytes}
use Rattle.wire_write.specs.Put.{paste}
use Rattle.wire_read.specs.Answer.{Answer, done, refused}
use Rattle.quick_end.specs.declared.State.{State}
use Rattle.quick_end.specs.declared.Progress.{Progress}
use Rattle.quick_end.specs.declared.End.{End}
use Rattle.refusal.specs.Numbers.{number}
use Rattle.quick_step.specs.declared.StepAnswer.{StepAnswer as Given}
use Rattle.quick_step.specs.declared.StepAnswer.TheVariants as given
use Rattle.quick_step.specs.declared.Stepped.{Stepped as Step}

-- a message to send of so many bytes, nothing to send, or a refusal
pub data StepAnswer : Type 0 where
  Send : (size : ℕ) → StepAnswer
  Nothing : StepAnswer
  Refused : (number : ℕ) → StepAnswer

pub record Stepped : Type 0 where
  pub end : End
  pub answer : StepAnswer

abbrev pub answer_told : (answer : Given) → StepAnswer
answer_told (given.Send size) = Send size
answer_told given.Nothing = Nothing
answer_told (given.Refused refusal) = Refused (number refusal)

abbrev pub stepped_told : (step : Step) → Stepped
stepped_told step = record { end = step.end; answer = answer_told step.answer }

pub record After : Type 0 where
  pub step : Stepped
  pub sent : Bytes
  pub got : Bytes
  pub output : Bytes

-- "a lent quick mode or reply buffer under 2,048 bytes"
unfoldable pub small : (sent got output : Bytes) → Bool
small sent got output = ltb (length sent) 2048 || ltb (length got) 2048 || ltb (length output) 2048

-- the message that a kept buffer holds; no message is longer than 2,048 bytes
unfoldable pub kept : (size : ℕ) (buffer : Bytes) → Bytes
kept size buffer = take (min size 2048) buffer

-- the record with another state and all else kept
unfoldable pub with_state : (state : State) (progress : Progress) → Progress
with_state state progress = record {
  state = state;
  sends = progress.sends;
  id = progress.id;
  sentsize = progress.sentsize;
  gotsize = progress.gotsize;
  agreed = progress.agreed;
}

-- what a call leaves, by its parts: the step, and the lent buffers after it
abbrev pub after_step : (step : Stepped) (sent got output : Bytes) → After
after_step step sent got output = record { step = step; sent = sent; got = got; output = output }

abbrev pub stepped : (end : End) (answer : StepAnswer) → Stepped
stepped end answer = record { end = end; answer = answer }

-- the end with another progress
abbrev pub with_progress : (progress : Progress) (end : End) → End
with_progress progress end = record { own = end.own; progress = progress }

-- "a repeat to output alone": what is answered, and the output
abbrev pub repeated_step : (progress : Progress) (end : End) → Stepped
repeated_step progress end = stepped (with_progress progress end) (Send (min end.progress.sentsize 2048))

abbrev pub repeated_output : (end : End) (sent output : Bytes) → Bytes
repeated_output end sent output = paste output 0 (kept end.progress.sentsize sent)

module _ (end : End) (sent got output : Bytes) where
  abbrev pub refusing : (number : ℕ) → After
  refusing number = after_step (stepped end (Refused number)) sent got output

  abbrev pub nothing : (progress : Progress) → After
  nothing progress = after_step (stepped (with_progress progress end) Nothing) sent got output

  abbrev pub repeating : (progress : Progress) → After
  repeating progress = after_step (repeated_step progress end) sent got (repeated_output end sent output)

  -- "A message sent first goes to sent and output"
  abbrev pub sending : (m : Bytes) (progress : Progress) (got_after : Bytes) → After
  sending m progress got_after = after_step (stepped (with_progress progress end) (Send (length m))) (paste sent 0 m) got_after (paste output 0 m)

-- the paper's number and values for each case
unfoldable pub step_answer : (answered : StepAnswer) → Answer
step_answer (Send size) = done (1 ∷ size ∷ [])
step_answer Nothing = done (0 ∷ [])
step_answer (Refused number) = refused number
