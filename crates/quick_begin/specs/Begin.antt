-- Begin, document 01, "Quick mode ends": what it answers, and the record and the lent buffers after it.
use Rattle.std.specs.Prelude.{ℕ, Bool, not, ◌||◌, ◌&&◌, length, eqb}
use Rattle.wire_read.specs.Wire.{Bytes, Code}
use Rattle.wire_read.specs.Tests.{if◌then◌otherwise◌}
use Rattle.identity.specs.Identity.{identity_code}
use Rattle.quick_write.specs.Messages.{book_of, lines, message_one}
use Rattle.quick_end.specs.Fresh.{is_idle, is_initiator, is_given_up}
use Rattle.quick_step.specs.Steps.{After, small, refusing, sending}
use Rattle.quick_end.specs.declared.State.TheVariants.{Sent}
use Rattle.quick_end.specs.declared.End.{End}

-- "message ID, and no or two identity bodies"
unfoldable pub identities_wrong : (first second : Bytes) → Bool
identities_wrong first second =
    not (eqb (length first) 0 && eqb (length second) 0 || eqb (identity_code 32 first) 0 && eqb (identity_code 32 second) 0)

-- "8192, 8196, not an Idle initiator 8195, 9, 18, no quick lines 14"
unfoldable pub begin_code : (end : End) (id : ℕ) (first second : Bytes) (tight : Bool) → Code
begin_code end id first second tight =
    if tight then 8192
    otherwise if is_given_up end.progress.state then 8196
    otherwise if not (is_initiator end.own.role && is_idle end.progress.state) then 8195
    otherwise if eqb id 0 then 9
    otherwise if identities_wrong first second then 18
    otherwise if eqb (lines (book_of end.own)) 0 then 14
    otherwise 0

-- "state Sent, one send"
unfoldable pub begun : (end : End) (id : ℕ) (first second sent got output : Bytes) → After
begun end id first second sent got output =
    if eqb (begin_code end id first second (small sent got output)) 0
    then sending end sent got output (message_one end.own id first second)
    (record {
      state = Sent;
      sends = 1;
      id = id;
      sentsize = length (message_one end.own id first second);
      gotsize = end.progress.gotsize;
      agreed = end.progress.agreed;
    })
    got
    otherwise refusing end sent got output (begin_code end id first second (small sent got output))
