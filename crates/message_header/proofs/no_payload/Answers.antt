use Rattle.message_header.specs.Header.{no_payload}
use Rattle.message_header.proofs.no_payload.Goals as goal

pub returns : goal.returns
unfolding no_payload
returns c = cc
