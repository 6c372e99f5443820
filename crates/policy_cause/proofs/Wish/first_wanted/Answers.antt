use borrow.Author.Tests.{eq-eqb, ne_eqb}
use Rattle.policy_cause.specs.Causes.{wanted}
use Rattle.policy_cause.proofs.Wish.first_wanted.Goals as goal

pub returns-then-self-eq11 : goal.returns-then-self-eq11
unfolding wanted
returns-then-self-eq11 g c told says = rw (eq-eqb c.args.self.lifetype 11 c.if-self-eq11.true) (c.first_of.ensures told says)

pub returns-then-self : goal.returns-then-self
unfolding wanted
returns-then-self g c told says = rw (ne_eqb c.args.self.lifetype 11 c.if-self-eq11.false, c.if-self.true) (c.first_of-then-self.ensures told says)

pub returns-else-self : goal.returns-else-self
unfolding wanted
returns-else-self g c told says = rw (ne_eqb c.args.self.lifetype 11 c.if-self-eq11.false, c.if-self.false) (c.first_of-else-self.ensures told says)
