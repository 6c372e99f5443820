use Rattle.policy_cause.proofs.CauseWays.{type_main, type_quick}
use Rattle.policy_cause.proofs.Wish.type_wanted.Goals as goal

pub returns-then-self-eq11 : goal.returns-then-self-eq11
returns-then-self-eq11 c = search type_main

pub returns-else-self-eq11 : goal.returns-else-self-eq11
returns-else-self-eq11 c = search type_quick
