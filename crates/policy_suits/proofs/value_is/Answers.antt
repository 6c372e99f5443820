use Rattle.policy_suits.proofs.SuitWays.{value_found}
use Rattle.policy_suits.proofs.value_is.Goals as goal

pub returns : goal.returns
returns c = search value_found
