use Rattle.policy_lawful.proofs.LawfulWays.{set_same, set_other}
use Rattle.policy_lawful.proofs.other_set.Goals as goal

pub returns-then-eq : goal.returns-then-eq
returns-then-eq c = search set_same

pub returns : goal.returns
returns c = search set_other
