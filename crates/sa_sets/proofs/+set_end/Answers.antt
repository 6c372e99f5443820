use native.Mathlib.Omega.{arith}
use Rattle.sa_sets.proofs.Ways.{end-out, end_past, end-other, end_on}
use Rattle.sa_sets.proofs.+set_end.Goals as goal

pub returns-then-left-eq0 : goal.returns-then-left-eq0
returns-then-left-eq0 t c = search end-out

pub returns-then-s-at : goal.returns-then-s-at
returns-then-s-at t c = search end_past

pub returns-then-s-at-2 : goal.returns-then-s-at-2
returns-then-s-at-2 t c = search end-other

pub set_end-requires : goal.set_end-requires
set_end-requires t c = (omega arith, tt)

pub returns : goal.returns
returns t c = search end_on
