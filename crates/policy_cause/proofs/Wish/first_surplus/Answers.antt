use Rattle.policy_cause.proofs.CauseWays.{surplus-out, surplus-end, surplus-here, surplus-on}
use Rattle.policy_cause.proofs.Wish.first_surplus.Goals as goal

pub returns-then-s-lt4 : goal.returns-then-s-lt4
returns-then-s-lt4 c = search surplus-end

pub returns-then-not-is_wanted : goal.returns-then-not-is_wanted
returns-then-not-is_wanted c = search surplus-here

pub loop-passed-preserved : goal.loop-passed-preserved
loop-passed-preserved c = search surplus-on

pub returns : goal.returns
returns c = search surplus-out
