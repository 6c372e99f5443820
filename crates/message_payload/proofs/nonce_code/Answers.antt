use Rattle.message_payload.specs.Payloads.{nonce_code}
use Rattle.message_payload.proofs.nonce_code.Goals as goal

pub returns-then-body : goal.returns-then-body
unfolding nonce_code
returns-then-body c = rw c.if-body.true

pub returns-else-body : goal.returns-else-body
unfolding nonce_code
returns-else-body c = rw c.if-body.false
