use Rattle.message_chain.specs.Message.{walk, payload_at}
use mathlib.Core.Path.{◌≡◌}
use Prim.Native.Nat.{◌+◌, ◌-◌, ◌*◌, ◌≤◌}
use Rattle.message_chain.proofs.payload_at.Given as goal

abbrev pub invariant-loop-passed : goal.invariant-loop-passed
invariant-loop-passed l = (l.start ≤ 28 + 65535 * l._passed) × (walk (l.k - l._passed) l.payloadtype l.start l.m ≡ payload_at l.k l.m)
