use Rattle.policy_suits.proofs.SuitWays.{protocols-main, protocols-alone, protocols-both}
use Rattle.policy_suits.proofs.protocols_suit.Goals as goal

pub returns-then-exchange-eq2 : goal.returns-then-exchange-eq2
returns-then-exchange-eq2 c = search protocols-main

pub returns-then-quick_protocols-eq1 : goal.returns-then-quick_protocols-eq1
returns-then-quick_protocols-eq1 c = search protocols-alone

pub returns-else-quick_protocols-eq1 : goal.returns-else-quick_protocols-eq1
returns-else-quick_protocols-eq1 c = search protocols-both
