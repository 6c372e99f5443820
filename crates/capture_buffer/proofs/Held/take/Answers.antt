use native.Mathlib.Omega.{arith}
use Rattle.capture_buffer.proofs.Ways.{taken-from}
use Rattle.capture_buffer.proofs.Held.take.Goals as goal

pub returns : goal.returns
returns c = taken-from _ _ _ (omega arith)
