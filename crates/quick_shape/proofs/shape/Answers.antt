use Rattle.quick_shape.proofs.Ways.{shape-known, shape-other}
use Rattle.quick_shape.proofs.shape.Goals as goal

pub returns-then-type_is-count : goal.returns-then-type_is-count
returns-then-type_is-count c = search shape-known

pub returns-else-type_is-count : goal.returns-else-type_is-count
returns-else-type_is-count c = search shape-other
