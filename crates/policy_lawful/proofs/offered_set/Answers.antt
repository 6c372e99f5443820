use Rattle.policy_lawful.proofs.LawfulWays.{set-offered}
use Rattle.policy_lawful.proofs.offered_set.Goals as goal

pub returns : goal.returns
returns c = search set-offered
