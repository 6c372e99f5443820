use Rattle.exports_quick.proofs.Ways.{role_initiator, role_responder}
use Rattle.exports_quick.proofs.role_by.Goals as goal

pub returns-then-initiator : goal.returns-then-initiator
returns-then-initiator c = search role_initiator

pub returns : goal.returns
returns c = search role_responder
