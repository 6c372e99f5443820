use Rattle.policy_lawful.proofs.LawfulWays.{number-there, number-absent}
use Rattle.policy_lawful.proofs.transform_not_offered.Goals as goal

pub returns-then-offered_transform-ne0 : goal.returns-then-offered_transform-ne0
returns-then-offered_transform-ne0 c = search number-there

pub returns : goal.returns
returns c = search number-absent
