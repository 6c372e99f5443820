use Rattle.quick_shape.proofs.Ways.{nonce-one, nonce-two}
use Rattle.quick_shape.proofs.nonce.Goals as goal

pub returns-in-Initiator : goal.returns-in-Initiator
returns-in-Initiator c = search nonce-one

pub returns-in-Responder : goal.returns-in-Responder
returns-in-Responder c = search nonce-two
