use Rattle.policy_lawful.proofs.LawfulWays.{number-replied}
use Rattle.policy_lawful.proofs.replied_number.Goals as goal

pub returns : goal.returns
returns c = search number-replied
