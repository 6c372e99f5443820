use Rattle.policy_lawful.proofs.LawfulWays.{compared-all}
use Rattle.policy_lawful.proofs.compared.Goals as goal

pub returns : goal.returns
returns c = search compared-all
