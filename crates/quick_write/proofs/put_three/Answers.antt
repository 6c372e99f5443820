use native.Mathlib.Omega.{arith}
use Rattle.quick_write.proofs.Ways.{around-fits, three-written}
use Rattle.quick_write.proofs.put_three.Goals as goal

pub overflow_cast-result : goal.overflow_cast-result
overflow_cast-result c = omega (arith, around-fits _ _ _ _ _ _ c.put_around.ensures)

pub returns : goal.returns
returns c = search three-written
