use Rattle.policy_lawful.proofs.LawfulWays.{protocols-other, order_other, order_same}
use Rattle.policy_lawful.proofs.protocols_differ.Goals as goal

pub returns-then-not-same_protocols : goal.returns-then-not-same_protocols
returns-then-not-same_protocols c = search protocols-other

pub returns-then-not-same_order : goal.returns-then-not-same_order
returns-then-not-same_order c = search order_other

pub returns : goal.returns
returns c = search order_same
