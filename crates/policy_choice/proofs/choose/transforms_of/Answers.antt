use Rattle.policy_choice.proofs.ChoiceWays.{transforms-one, transforms-two}
use Rattle.policy_choice.proofs.choose.transforms_of.Goals as goal

pub returns-then-proposal_count-eq1 : goal.returns-then-proposal_count-eq1
returns-then-proposal_count-eq1 c = search transforms-one

pub returns : goal.returns
returns c = search transforms-two
