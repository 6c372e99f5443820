use Rattle.policy_suits.proofs.SuitWays.{main-line, quick-line}
use Rattle.policy_suits.proofs.suits_line.Goals as goal

pub returns-then-exchange-eq2 : goal.returns-then-exchange-eq2
returns-then-exchange-eq2 c = search main-line

pub returns : goal.returns
returns c = search quick-line
