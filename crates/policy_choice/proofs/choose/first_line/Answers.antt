use Rattle.policy_choice.proofs.ChoiceWays.{line_first}
use Rattle.policy_choice.proofs.choose.first_line.Goals as goal

pub returns : goal.returns
returns c = search line_first
