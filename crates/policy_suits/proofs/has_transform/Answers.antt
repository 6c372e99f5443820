use Rattle.policy_suits.proofs.SuitWays.{has-found}
use Rattle.policy_suits.proofs.has_transform.Goals as goal

pub returns : goal.returns
returns c = search has-found
