use Rattle.policy_suits.proofs.SuitWays.{surplus-kilobytes, surplus-seconds}
use Rattle.policy_suits.proofs.nothing_surplus.Goals as goal

pub returns-then-has_kilobytes : goal.returns-then-has_kilobytes
returns-then-has_kilobytes c = search surplus-kilobytes

pub returns-else-has_kilobytes : goal.returns-else-has_kilobytes
returns-else-has_kilobytes c = search surplus-seconds
