use Rattle.policy_cause.proofs.CauseWays.{surplus-none, surplus-first}
use Rattle.policy_cause.proofs.Wish.surplus_cause.Goals as goal

pub returns-then-nothing_surplus : goal.returns-then-nothing_surplus
returns-then-nothing_surplus c = search surplus-none

pub returns : goal.returns
returns c = search surplus-first
