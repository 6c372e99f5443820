use Rattle.policy_lawful.proofs.LawfulWays.{attributes-same, attributes-other}
use Rattle.policy_lawful.proofs.other_attributes.Goals as goal

pub returns-then-equal : goal.returns-then-equal
returns-then-equal c = search attributes-same

pub returns : goal.returns
returns c = search attributes-other
