use Prim.Native.Nat.{◌-◌}
use mathlib.Core.Path.{◌≡◌}
use Rattle.sa_attribute.specs.Attributes.{find}
use Rattle.sa_attribute.proofs.find.Given as goal

abbrev pub invariant-loop : goal.invariant-loop
invariant-loop l = find (l.most - l.counter) l.attributetype l.rest ≡ find l.most l.attributetype l.s

abbrev pub decreases-loop : goal.decreases-loop
decreases-loop l = l.most - l.counter
