use Rattle.policy_cause.proofs.CauseWays.{kilobytes_suit, kilobytes-out}
use Rattle.policy_cause.proofs.Wish.kilobytes_cause.Goals as goal

pub returns-then-kilobytes_some : goal.returns-then-kilobytes_some
returns-then-kilobytes_some c = search kilobytes_suit

pub returns-else-kilobytes_some : goal.returns-else-kilobytes_some
returns-else-kilobytes_some c = search kilobytes-out
