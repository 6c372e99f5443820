use Rattle.quick_shape.specs.Shapes.{type_is}
use Rattle.quick_shape.proofs.type_is.Goals as goal

pub returns : goal.returns
unfolding type_is
returns c = cc
