use Rattle.policy_lawful.proofs.LawfulWays.{id_same, id_other}
use Rattle.policy_lawful.proofs.other_id.Goals as goal

pub returns-then-found-offered : goal.returns-then-found-offered
returns-then-found-offered c = search id_same

pub returns : goal.returns
returns c = search id_other
