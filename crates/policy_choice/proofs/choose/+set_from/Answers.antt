use native.Mathlib.Omega.{arith}
use Rattle.policy_choice.proofs.ChoiceWays.{sets-none, sets-on, sets-here}
use Rattle.policy_choice.proofs.choose.+set_from.Goals as goal

pub returns-then-n-eq0 : goal.returns-then-n-eq0
returns-then-n-eq0 t c = search sets-none

pub set_from-requires : goal.set_from-requires
set_from-requires t c = (omega arith, omega arith)

pub returns-then-line-eq0 : goal.returns-then-line-eq0
returns-then-line-eq0 t c = search sets-on

pub returns : goal.returns
returns t c = search sets-here
