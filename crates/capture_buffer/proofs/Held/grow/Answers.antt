use native.Mathlib.Omega.{arith}
use Rattle.capture_buffer.proofs.Ways.{grown-to}
use Rattle.capture_buffer.proofs.Held.grow.Goals as goal

pub returns : goal.returns
returns c = grown-to _ _ _ _ (omega arith)
