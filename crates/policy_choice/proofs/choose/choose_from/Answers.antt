use Rattle.policy_choice.proofs.ChoiceWays.{sets-all}
use Rattle.policy_choice.proofs.choose.choose_from.Goals as goal

pub returns : goal.returns
returns c = search sets-all
