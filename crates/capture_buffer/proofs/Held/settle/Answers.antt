use Rattle.capture_buffer.proofs.Ways.{settled-by}
use Rattle.capture_buffer.proofs.Held.settle.Goals as goal

pub returns : goal.returns
returns c = settled-by c.args.buffer.now c.args.self c.min-from.result c.min-end.result c.min-end.ensures c.min-from.ensures _ c.copy_within.ensures.after
