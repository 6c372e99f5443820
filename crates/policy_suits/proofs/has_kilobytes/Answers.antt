use Rattle.policy_suits.proofs.SuitWays.{kilobytes-there}
use Rattle.policy_suits.proofs.has_kilobytes.Goals as goal

pub returns : goal.returns
returns c = search kilobytes-there
