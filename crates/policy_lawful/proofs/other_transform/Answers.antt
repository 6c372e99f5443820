use Rattle.policy_lawful.proofs.LawfulWays.{transform-same, transform-other}
use Rattle.policy_lawful.proofs.other_transform.Goals as goal

pub returns-then-eq : goal.returns-then-eq
returns-then-eq c = search transform-same

pub returns : goal.returns
returns c = search transform-other
