use Rattle.message_payload.specs.Payloads.{type_wrong}
use Rattle.message_payload.proofs.type_wrong.Goals as goal

pub returns : goal.returns
unfolding type_wrong
returns c = cc
