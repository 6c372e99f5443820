use Rattle.policy_cause.proofs.CauseWays.{missing-not, missing_type}
use Rattle.policy_cause.proofs.missing_one.Goals as goal

pub returns-then-is_there : goal.returns-then-is_there
returns-then-is_there c = search missing-not

pub returns-else-is_there : goal.returns-else-is_there
returns-else-is_there c = search missing_type
