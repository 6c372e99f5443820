use Rattle.message_payload.specs.Payloads.{body_code}
use Rattle.message_payload.proofs.Ways.{body-second, body-offer, body_opaque}
use Rattle.message_payload.proofs.body_code.Goals as goal

pub returns-then-offered : goal.returns-then-offered
unfolding body_code
returns-then-offered c = search body-second

pub returns-else-offered : goal.returns-else-offered
unfolding body_code
returns-else-offered c = search body-offer

pub returns-in-5 : goal.returns-in-5
unfolding body_code
returns-in-5 c = rw c.in-5.is c.identity_code.ensures

pub returns-in-6 : goal.returns-in-6
unfolding body_code
returns-in-6 c = rw c.in-6.is c.certificate_code.ensures

pub returns-in-8 : goal.returns-in-8
unfolding body_code
returns-in-8 c = rw c.in-8.is c.hash_code.ensures

pub returns-in-10 : goal.returns-in-10
unfolding body_code
returns-in-10 c = rw c.in-10.is c.nonce_code.ensures

pub returns-in_default : goal.returns-in_default
unfolding body_code
returns-in_default c = search body_opaque
