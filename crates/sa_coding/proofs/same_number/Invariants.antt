use Prim.Native.Nat.{◌+◌}
use mathlib.Core.Path.{◌≡◌}
use lib.Dec.{eqb}
use Rattle.wire_read.specs.Wire.{number_at}
use Rattle.sa_coding.proofs.same_number.Given as goal

abbrev pub invariant-loop-p : goal.invariant-loop-p
invariant-loop-p l = eqb (number_at l.p l.a 0) (number_at l.q l.b 0) ≡ eqb (number_at l.n l.a 0) (number_at l.m l.b 0)

abbrev pub decreases-loop-p : goal.decreases-loop-p
decreases-loop-p l = l.p + l.q
