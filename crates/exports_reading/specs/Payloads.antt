-- A payload of a message, counted from 0: its type, start and length.
use Rattle.std.specs.Prelude.{ℕ, [], ◌∷◌, leb}
use Rattle.wire_read.specs.Wire.{Bytes}
use Rattle.wire_read.specs.Tests.{if◌then◌otherwise◌}
use Rattle.wire_read.specs.Answer.{Answer, done, refused}
use Rattle.message_chain.specs.Message.{message, payload_at}
use Rattle.message_chain.specs.Message.{Message}
use Rattle.message_chain.specs.Message.{Refused, Read}

-- of a message that was read so: 16 where it has no such payload
unfoldable pub read_payload : (place : ℕ) (m : Bytes) (read : Message) → Answer
read_payload place m (Refused number) = refused number
read_payload place m (Read exchange count) =
    if leb count place then refused 16
    otherwise done ((payload_at place m).payloadtype ∷ (payload_at place m).start ∷ (payload_at place m).length ∷ [])

unfoldable pub payload_answer : (place : ℕ) (m : Bytes) → Answer
payload_answer place m = read_payload place m (message m)
