use Rattle.capture_buffer.proofs.Ways.{held-part}
use Rattle.capture_buffer.proofs.Held.held_in.Goals as goal

pub returns : goal.returns
returns c = search held-part
