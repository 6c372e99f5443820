use Rattle.quick_shape.proofs.Ways.{shape-read}
use Rattle.quick_shape.proofs.shape_of.Goals as goal

pub returns : goal.returns
returns c = search shape-read
