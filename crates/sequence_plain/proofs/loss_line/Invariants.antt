use mathlib.Core.Path.{◌≡◌}
use Prim.Native.Nat.{◌≤◌}
use Rattle.sequence_plain.proofs.Ways.{counted}
use Rattle.sequence_plain.proofs.loss_line.Given as goal

abbrev pub invariant-loop-looked : goal.invariant-loop-looked
invariant-loop-looked l = (l.count ≤ l.looked) × (l.count ≡ counted l.list l.looked)
