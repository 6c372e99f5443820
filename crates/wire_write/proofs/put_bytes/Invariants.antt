use Prim.Native.Nat.{◌+◌}
use mathlib.Core.Path.{◌≡◌}
use lib.ListN.{length, drop}
use Rattle.wire_write.specs.Put.{paste}
use Rattle.wire_write.proofs.put_bytes.Given as goal

abbrev pub invariant-loop-i : goal.invariant-loop-i
invariant-loop-i l =
    (length l.buffer ≡ length l.initial.buffer) × (paste l.buffer (l.from + l.i) (drop l.i l.bytes) ≡ paste l.initial.buffer l.at l.bytes)
