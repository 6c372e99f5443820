use borrow.Author.Tests.{eq-eqb, ne_eqb}
use Rattle.policy_suits.specs.Suits.{quick_id}
use Rattle.policy_suits.proofs.quick_id.Goals as goal

pub returns-then-protocol-eq2 : goal.returns-then-protocol-eq2
unfolding quick_id
returns-then-protocol-eq2 c = rw (eq-eqb _ _ c.if-protocol-eq2.true)

pub returns-else-protocol-eq2 : goal.returns-else-protocol-eq2
unfolding quick_id
returns-else-protocol-eq2 c = rw (ne_eqb _ _ c.if-protocol-eq2.false)
