use native.Mathlib.Omega.{arith}
use Rattle.quick_write.proofs.Ways.{lines-most, sets_fit, offer-written}
use Rattle.quick_write.proofs.put_offer.Goals as goal

pub put_line_sets-sets-requires : goal.put_line_sets-sets-requires
put_line_sets-sets-requires c = (omega (arith, lines-most _ _ c.lines.ensures), omega (arith, lines-most _ _ c.lines.ensures))

pub overflow_add-result : goal.overflow_add-result
overflow_add-result c = omega (arith, lines-most _ _ c.lines.ensures, sets_fit _ _ _ _ _ _ _ _ _ c.put_line_sets-sets.ensures)

pub returns : goal.returns
returns c = search offer-written
