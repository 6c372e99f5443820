use Rattle.policy_choice.proofs.ChoiceWays.{set-chosen}
use Rattle.policy_choice.proofs.choose.chosen.Goals as goal

pub returns : goal.returns
returns c = search set-chosen
