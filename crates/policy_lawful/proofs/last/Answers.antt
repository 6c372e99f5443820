use Rattle.policy_lawful.proofs.LawfulWays.{last_none, last_some}
use Rattle.policy_lawful.proofs.last.Goals as goal

pub returns-then-count-eq0 : goal.returns-then-count-eq0
returns-then-count-eq0 c = search last_none

pub returns : goal.returns
returns c = search last_some
