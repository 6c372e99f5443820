use Rattle.std.proofs.Common.{◌≡◌, ◌-◌}
use Rattle.wire_read.specs.Parts.{numbered}
use Rattle.wire_read.proofs.parted.numbered.Given as goal

abbrev pub invariant-loop-passed : goal.invariant-loop-passed
invariant-loop-passed g l =
    numbered g.P.Parted.first_part g.P.Parted.after_part (l.most - l._passed) l.number l.rest
    ≡ numbered g.P.Parted.first_part g.P.Parted.after_part l.most l.number l.s
