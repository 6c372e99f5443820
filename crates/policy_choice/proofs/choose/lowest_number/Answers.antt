use Rattle.policy_choice.proofs.ChoiceWays.{number-none, number-lowest}
use Rattle.policy_choice.proofs.choose.lowest_number.Goals as goal

pub returns-in-None : goal.returns-in-None
returns-in-None c = search number-none

pub returns-in-Some : goal.returns-in-Some
returns-in-Some c = search number-lowest
