-- A tick, document 01, "Quick mode ends": what it answers, and the record and the lent buffers after it.
use Rattle.std.specs.Prelude.{◌+◌, Bool, true, false, not, ltb, eqb}
use Rattle.wire_read.specs.Wire.{Bytes, Code}
use Rattle.wire_read.specs.Tests.{if◌then◌otherwise◌}
use Rattle.quick_end.specs.Fresh.{is_idle, is_given_up}
use Rattle.quick_step.specs.Steps.{After, small, with_state, refusing, nothing, repeating}
use Rattle.quick_end.specs.declared.State.{State}
use Rattle.quick_end.specs.declared.State.TheVariants.{Idle, Sent, Half, Open, GivenUp}
use Rattle.quick_end.specs.declared.Progress.{Progress}
use Rattle.quick_end.specs.declared.End.{End}

-- "8192, 8196, Idle 8195"
unfoldable pub tick_code : (state : State) (tight : Bool) → Code
tick_code state tight = if tight then 8192 otherwise if is_given_up state then 8196 otherwise if is_idle state then 8195 otherwise 0

unfoldable pub one_more : (progress : Progress) → Progress
one_more progress = record {
  state = progress.state;
  sends = progress.sends + 1;
  id = progress.id;
  sentsize = progress.sentsize;
  gotsize = progress.gotsize;
  agreed = progress.agreed;
}

unfoldable pub is_open : (state : State) → Bool
is_open Open = true
is_open Idle = false
is_open Sent = false
is_open Half = false
is_open GivenUp = false

-- "Open nothing; Sent or Half sends its kept message again, up to four sends, and the next tick is GivenUp with nothing to send"
unfoldable pub ticked : (end : End) (sent got output : Bytes) → After
ticked end sent got output =
    if not (eqb (tick_code end.progress.state (small sent got output)) 0)
    then refusing end sent got output (tick_code end.progress.state (small sent got output))
    otherwise if is_open end.progress.state then nothing end sent got output end.progress
    otherwise if ltb end.progress.sends 4 then repeating end sent got output (one_more end.progress)
    otherwise nothing end sent got output (with_state GivenUp end.progress)
