-- What the ends ask of a message that is delivered, document 01, "Quick mode ends".
use Rattle.std.specs.Prelude.{ℕ, Bool, not, ◌&&◌, length, ltb, eqb}
use Rattle.wire_read.specs.Wire.{Bytes, Code}
use Rattle.wire_read.specs.Tests.{if◌then◌otherwise◌}
use Rattle.message_header.specs.Header.{flags_of, icookie_of, rcookie_of, message_id_of}
use Rattle.message_chain.specs.Message.{Message}
use Rattle.message_chain.specs.Message.{Refused, Read}
use Rattle.quick_end.specs.Fresh.{is_idle, is_initiator}
use Rattle.quick_shape.specs.Shapes.{shape}
use Rattle.quick_end.specs.declared.State.{State}
use Rattle.quick_end.specs.declared.Own.{Own}

-- "cookies (4)": both as this exchange has them
unfoldable pub cookies_not_own : (own : Own) (m : Bytes) → Bool
cookies_not_own own m = not (eqb (icookie_of m) own.icookie && eqb (rcookie_of m) own.rcookie)

-- "exchange not 32 (7), flag not 1 (8), initiator Idle (8195), cookies (4), message ID (9; an Idle responder takes it), shape 8-1-10,
-- 8-1-10-5-5 or 8 alone (16), over 2,048 bytes (30)"
unfoldable pub quick_code : (own : Own) (state : State) (id exchange count : ℕ) (m : Bytes) → Code
quick_code own state id exchange count m =
    if not (eqb exchange 32) then 7
    otherwise if not (eqb (flags_of m) 1) then 8
    otherwise if is_initiator own.role && is_idle state then 8195
    otherwise if cookies_not_own own m then 4
    otherwise if not (is_idle state) && not (eqb (message_id_of m) id) then 9
    otherwise if eqb (shape count m) 0 then 16
    otherwise if ltb 2048 (length m) then 30
    otherwise 0

-- "reading", and then these
unfoldable pub read_code : (own : Own) (state : State) (id : ℕ) (m : Bytes) (read : Message) → Code
read_code own state id m (Refused number) = number
read_code own state id m (Read exchange count) = quick_code own state id exchange count m
