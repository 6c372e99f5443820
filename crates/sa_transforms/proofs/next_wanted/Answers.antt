use borrow.Author.Tests.{ne_eqb}
use Rattle.sa_transforms.specs.Transforms.{next_wanted}
use Rattle.sa_transforms.proofs.next_wanted.Goals as goal

pub returns-then-left-eq0 : goal.returns-then-left-eq0
unfolding next_wanted
returns-then-left-eq0 c = rw c.if-left-eq0.true

pub returns-else-left-eq0 : goal.returns-else-left-eq0
unfolding next_wanted
returns-else-left-eq0 c = rw (ne_eqb _ _ c.if-left-eq0.false)
