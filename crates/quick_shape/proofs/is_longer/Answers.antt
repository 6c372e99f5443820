use Rattle.quick_shape.specs.Shapes.{is_longer}
use Rattle.quick_shape.proofs.is_longer.Goals as goal

pub returns : goal.returns
unfolding is_longer
returns c = cc
