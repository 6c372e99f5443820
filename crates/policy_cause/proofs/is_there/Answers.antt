use Rattle.policy_cause.proofs.CauseWays.{there-life, there-other}
use Rattle.policy_cause.proofs.is_there.Goals as goal

pub returns-then-attributetype-lifetype : goal.returns-then-attributetype-lifetype
returns-then-attributetype-lifetype c = search there-life

pub returns-else-attributetype-lifetype : goal.returns-else-attributetype-lifetype
returns-else-attributetype-lifetype c = search there-other
