use Rattle.policy_suits.proofs.SuitWays.{seconds-found}
use Rattle.policy_suits.proofs.seconds_within.Goals as goal

pub returns : goal.returns
returns c = search seconds-found
