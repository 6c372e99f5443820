use Rattle.policy_suits.proofs.SuitWays.{kilobytes-found}
use Rattle.policy_suits.proofs.kilobytes_some.Goals as goal

pub returns : goal.returns
returns c = search kilobytes-found
