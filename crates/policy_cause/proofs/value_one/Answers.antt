use Rattle.policy_cause.proofs.CauseWays.{value-right, value_wrong}
use Rattle.policy_cause.proofs.value_one.Goals as goal

pub returns-then-attributetype-lifetype : goal.returns-then-attributetype-lifetype
returns-then-attributetype-lifetype c = search value-right

pub returns-else-attributetype-lifetype : goal.returns-else-attributetype-lifetype
returns-else-attributetype-lifetype c = search value_wrong
