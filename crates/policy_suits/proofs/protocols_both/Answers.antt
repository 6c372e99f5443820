use Rattle.policy_suits.proofs.SuitWays.{two-protocols}
use Rattle.policy_suits.proofs.protocols_both.Goals as goal

pub returns : goal.returns
returns c = search two-protocols
