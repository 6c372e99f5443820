use Rattle.std.proofs.Common.{◌≡◌, ◌+◌, ◌-◌}
use Rattle.wire_read.specs.Parts.{parts}
use Rattle.wire_read.proofs.parted.parts.Given as goal

abbrev pub invariant-loop-counted : goal.invariant-loop-counted
invariant-loop-counted g l = l.counted + parts g.P.Parted.after_part (l.most - l.counted) l.rest ≡ parts g.P.Parted.after_part l.most l.s
