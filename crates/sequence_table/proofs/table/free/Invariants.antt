use Rattle.sequence_table.specs.Table.{rooms, is_free, first_place, free}
use mathlib.Core.Path.{◌≡◌}
use Prim.Native.Nat.{◌-◌}
use Rattle.sequence_table.proofs.table.free.Given as goal

abbrev pub invariant-loop-room : goal.invariant-loop-room
invariant-loop-room l = first_place (is_free l.t) (rooms - l.room) l.room ≡ free l.t
