use Rattle.message_payload.proofs.Ways.{payload_type, payload-short, payload_reserved, payload_length, payload-body}
use Rattle.message_payload.proofs.payload_code.Goals as goal

pub returns-then-type_wrong : goal.returns-then-type_wrong
returns-then-type_wrong c = search payload_type

pub returns-then-s-lt4 : goal.returns-then-s-lt4
returns-then-s-lt4 c = search payload-short

pub returns-then-byte-ne0 : goal.returns-then-byte-ne0
returns-then-byte-ne0 c = search payload_reserved

pub returns-then-length_out : goal.returns-then-length_out
returns-then-length_out c = search payload_length

pub returns : goal.returns
returns c = search payload-body
