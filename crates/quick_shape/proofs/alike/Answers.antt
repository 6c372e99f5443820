use Rattle.quick_shape.proofs.Ways.{both-alike}
use Rattle.quick_shape.proofs.alike.Goals as goal

pub returns : goal.returns
returns c = search both-alike
