use Rattle.quick_shape.specs.Shapes.{count_of}
use Rattle.quick_shape.proofs.count_of.Goals as goal

pub returns-in-Err : goal.returns-in-Err
unfolding count_of
returns-in-Err g c = cc

pub returns-in-Ok : goal.returns-in-Ok
unfolding count_of
returns-in-Ok g c = cc
