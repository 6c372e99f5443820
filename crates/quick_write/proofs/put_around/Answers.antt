use native.Mathlib.Omega.{arith}
use Rattle.quick_write.proofs.Ways.{padding-few, around-written}
use Rattle.quick_write.proofs.put_around.Goals as goal

pub overflow_cast-whole : goal.overflow_cast-whole
overflow_cast-whole c = omega (arith, padding-few _ _ c.padding-zeros.ensures)

pub overflow_add-whole-2 : goal.overflow_add-whole-2
overflow_add-whole-2 c = omega (arith, padding-few _ _ c.padding-zeros.ensures)

pub returns : goal.returns
returns c = search around-written
