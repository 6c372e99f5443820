use Rattle.policy_suits.proofs.SuitWays.{main-found}
use Rattle.policy_suits.proofs.main_suits.Goals as goal

pub returns : goal.returns
returns c = search main-found
