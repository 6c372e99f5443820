use Rattle.policy_lawful.proofs.LawfulWays.{sets_several, set-absent, set_there}
use Rattle.policy_lawful.proofs.sets_differ.Goals as goal

pub returns-then-count-ne1 : goal.returns-then-count-ne1
returns-then-count-ne1 c = search sets_several

pub returns-then-offered_set-eq0 : goal.returns-then-offered_set-eq0
returns-then-offered_set-eq0 c = search set-absent

pub returns : goal.returns
returns c = search set_there
