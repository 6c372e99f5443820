use Rattle.sequence_table.specs.Table.{rooms, holds, first_place, find}
use mathlib.Core.Path.{◌≡◌}
use Prim.Native.Nat.{◌-◌}
use Rattle.sequence_table.proofs.table.find.Given as goal

abbrev pub invariant-loop-room : goal.invariant-loop-room
invariant-loop-room l = first_place (holds l.t l.key) (rooms - l.room) l.room ≡ find l.t l.key
