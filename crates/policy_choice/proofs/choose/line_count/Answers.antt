use Rattle.policy_choice.proofs.ChoiceWays.{count-main, count-quick}
use Rattle.policy_choice.proofs.choose.line_count.Goals as goal

pub returns-then-exchange-eq2 : goal.returns-then-exchange-eq2
returns-then-exchange-eq2 c = search count-main

pub returns-else-exchange-eq2 : goal.returns-else-exchange-eq2
returns-else-exchange-eq2 c = search count-quick
