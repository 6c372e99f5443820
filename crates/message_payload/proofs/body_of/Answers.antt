use Rattle.message_payload.proofs.Ways.{body-taken}
use Rattle.message_payload.proofs.body_of.Goals as goal

pub returns : goal.returns
returns c = search body-taken
