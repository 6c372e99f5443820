use Rattle.policy_suits.proofs.SuitWays.{values-found}
use Rattle.policy_suits.proofs.main_values.Goals as goal

pub returns : goal.returns
returns c = search values-found
