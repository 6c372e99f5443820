use Rattle.policy_lawful.proofs.LawfulWays.{protocols-compared}
use Rattle.policy_lawful.proofs.same_protocols.Goals as goal

pub returns : goal.returns
returns c = search protocols-compared
