use Rattle.quick_agreed.proofs.Ways.{transforms-one, transforms-two}
use Rattle.quick_agreed.proofs.transforms_in.Goals as goal

pub returns-then-proposal_count-eq1 : goal.returns-then-proposal_count-eq1
returns-then-proposal_count-eq1 c = search transforms-one

pub returns : goal.returns
returns c = search transforms-two
