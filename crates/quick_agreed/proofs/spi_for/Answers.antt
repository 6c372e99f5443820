use Rattle.quick_agreed.specs.Agreed.{spi_for}
use borrow.Author.Tests.{eq-eqb, ne_eqb}
use Rattle.quick_agreed.proofs.spi_for.Goals as goal

pub returns-then-protocol-eq2 : goal.returns-then-protocol-eq2
unfolding spi_for
returns-then-protocol-eq2 c = rw (eq-eqb _ _ c.if-protocol-eq2.true)

pub returns-else-protocol-eq2 : goal.returns-else-protocol-eq2
unfolding spi_for
returns-else-protocol-eq2 c = rw (ne_eqb _ _ c.if-protocol-eq2.false)
