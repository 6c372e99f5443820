use Rattle.policy_choice.proofs.ChoiceWays.{body-taken}
use Rattle.policy_choice.proofs.choose.body_at.Goals as goal

pub returns : goal.returns
returns c = search body-taken
