use Rattle.message_payload.specs.Payloads.{length_out}
use Rattle.message_payload.proofs.length_out.Goals as goal

pub returns : goal.returns
unfolding length_out
returns c = cc
