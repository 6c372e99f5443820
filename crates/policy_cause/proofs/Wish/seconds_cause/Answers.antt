use Rattle.policy_cause.proofs.CauseWays.{seconds_suit, seconds-out}
use Rattle.policy_cause.proofs.Wish.seconds_cause.Goals as goal

pub returns-then-seconds_within : goal.returns-then-seconds_within
returns-then-seconds_within c = search seconds_suit

pub returns : goal.returns
returns c = search seconds-out
