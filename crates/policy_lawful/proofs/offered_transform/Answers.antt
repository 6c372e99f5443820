use Rattle.policy_lawful.proofs.LawfulWays.{transform-offered}
use Rattle.policy_lawful.proofs.offered_transform.Goals as goal

pub returns : goal.returns
returns c = search transform-offered
