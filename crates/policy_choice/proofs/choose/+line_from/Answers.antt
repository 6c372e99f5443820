use native.Mathlib.Omega.{arith}
use Rattle.policy_choice.proofs.ChoiceWays.{line-none, line-here, line_on}
use Rattle.policy_choice.proofs.choose.+line_from.Goals as goal

pub returns-then-n-eq0 : goal.returns-then-n-eq0
returns-then-n-eq0 t c = search line-none

pub returns-then-set_suits : goal.returns-then-set_suits
returns-then-set_suits t c = search line-here

pub line_from-requires : goal.line_from-requires
line_from-requires t c = (omega arith, omega arith)

pub returns : goal.returns
returns t c = search line_on
