use Rattle.policy_lawful.proofs.LawfulWays.{transforms-one, transforms_several}
use Rattle.policy_lawful.proofs.several_transforms.Goals as goal

pub returns-then-count-eq1 : goal.returns-then-count-eq1
returns-then-count-eq1 c = search transforms-one

pub returns : goal.returns
returns c = search transforms_several
