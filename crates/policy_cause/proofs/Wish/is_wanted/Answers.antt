use Rattle.policy_cause.proofs.CauseWays.{wanted-life, wanted-other}
use Rattle.policy_cause.proofs.Wish.is_wanted.Goals as goal

pub returns-then-t-self : goal.returns-then-t-self
returns-then-t-self c = search wanted-life

pub returns : goal.returns
returns c = search wanted-other
