use Rattle.policy_suits.proofs.SuitWays.{duration-out, duration-end, duration-here, duration-on}
use Rattle.policy_suits.proofs.find_duration.Goals as goal

pub returns-then-rest-lt4 : goal.returns-then-rest-lt4
returns-then-rest-lt4 c = search duration-end

pub returns-then-is_unit : goal.returns-then-is_unit
returns-then-is_unit c = search duration-here

pub loop-passed-preserved : goal.loop-passed-preserved
loop-passed-preserved c = search duration-on

pub returns : goal.returns
returns c = search duration-out
