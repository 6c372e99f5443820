use Rattle.exports_end.proofs.Ways.{role_initiator, role_responder}
use Rattle.exports_end.proofs.role_of.Goals as goal

pub returns-in-0 : goal.returns-in-0
returns-in-0 c = search role_initiator

pub returns-in_default : goal.returns-in_default
returns-in_default c = search role_responder
