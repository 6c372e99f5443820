use Rattle.policy_suits.proofs.SuitWays.{one-protocol}
use Rattle.policy_suits.proofs.protocols_alone.Goals as goal

pub returns : goal.returns
returns c = search one-protocol
