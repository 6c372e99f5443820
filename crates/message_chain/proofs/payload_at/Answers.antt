use native.Mathlib.Omega.{arith}
use Rattle.message_chain.proofs.Ways.{walk-on, walk_end, walk-begin}
use Rattle.message_chain.proofs.payload_at.Goals as goal

pub loop-passed-init : goal.loop-passed-init
loop-passed-init c = (omega arith, search walk-begin)

pub loop-passed-preserved : goal.loop-passed-preserved
loop-passed-preserved c = (omega arith, search walk-on)

pub returns : goal.returns
returns c = search walk_end
