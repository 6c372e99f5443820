use native.Mathlib.Omega.{arith}
use Rattle.policy_choice.proofs.ChoiceWays.{sa_none, sa_here, sa_on}
use Rattle.policy_choice.proofs.choose.+sa_from.Goals as goal

pub returns-then-n-eq0 : goal.returns-then-n-eq0
returns-then-n-eq0 t c = search sa_none

pub returns-then-p-eq1 : goal.returns-then-p-eq1
returns-then-p-eq1 t c = search sa_here

pub sa_from-requires : goal.sa_from-requires
sa_from-requires t c = (omega arith, omega arith)

pub returns : goal.returns
returns t c = search sa_on
