use Rattle.policy_suits.proofs.SuitWays.{lowest-begin, lowest-here, lowest-on, lowest-out}
use Rattle.policy_suits.proofs.lowest.Goals as goal

pub loop-passed-init : goal.loop-passed-init
loop-passed-init c = search lowest-begin

pub returns-then-suits_line : goal.returns-then-suits_line
returns-then-suits_line c = search lowest-here

pub loop-passed-preserved : goal.loop-passed-preserved
loop-passed-preserved c = search lowest-on

pub returns : goal.returns
returns c = search lowest-out
