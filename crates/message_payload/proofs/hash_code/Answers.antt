use borrow.Author.Tests.{eq-eqb, ne_eqb}
use Rattle.message_payload.specs.Payloads.{hash_code}
use Rattle.message_payload.proofs.hash_code.Goals as goal

pub returns-then-body-eq32 : goal.returns-then-body-eq32
unfolding hash_code
returns-then-body-eq32 c = rw (eq-eqb _ _ c.if-body-eq32.true)

pub returns-else-body-eq32 : goal.returns-else-body-eq32
unfolding hash_code
returns-else-body-eq32 c = rw (ne_eqb _ _ c.if-body-eq32.false)
