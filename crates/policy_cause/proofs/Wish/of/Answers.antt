use Rattle.policy_cause.proofs.CauseWays.{wish_main, wish_quick}
use Rattle.policy_cause.proofs.Wish.of.Goals as goal

pub returns-then-exchange-eq2 : goal.returns-then-exchange-eq2
returns-then-exchange-eq2 c = search wish_main

pub returns : goal.returns
returns c = search wish_quick
