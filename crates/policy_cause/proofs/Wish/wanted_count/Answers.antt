use Rattle.policy_cause.proofs.CauseWays.{count-main, count_five, count_without}
use Rattle.policy_cause.proofs.Wish.wanted_count.Goals as goal

pub returns-then-self-eq11 : goal.returns-then-self-eq11
returns-then-self-eq11 c = search count-main

pub returns-then-self : goal.returns-then-self
returns-then-self c = search count_five

pub returns-else-self : goal.returns-else-self
returns-else-self c = search count_without
