use Rattle.policy_lawful.proofs.LawfulWays.{order_compared}
use Rattle.policy_lawful.proofs.same_order.Goals as goal

pub returns : goal.returns
returns c = search order_compared
