use Rattle.policy_lawful.proofs.LawfulWays.{unread-all}
use Rattle.policy_lawful.proofs.unread.Goals as goal

pub returns : goal.returns
returns c = search unread-all
