use Rattle.std.proofs.Common.{◌≡◌, ◌-◌}
use Rattle.wire_read.specs.Parts.{skip}
use Rattle.wire_read.proofs.parted.skip.Given as goal

abbrev pub invariant-loop-skipped : goal.invariant-loop-skipped
invariant-loop-skipped g l = skip g.P.Parted.after_part (l.k - l._skipped) l.rest ≡ skip g.P.Parted.after_part l.k l.s
