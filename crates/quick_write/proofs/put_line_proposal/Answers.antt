use native.Mathlib.Omega.{arith}
use Rattle.quick_write.proofs.Ways.{any_fits, line-short, line-long}
use Rattle.quick_write.proofs.put_line_proposal.Goals as goal

pub overflow_cast-result : goal.overflow_cast-result
overflow_cast-result c = omega (arith, any_fits _ _ _ _ _ _ _ _ _ _ c.put_proposal.ensures (omega arith))

pub returns-then-quick_protocols-protocol : goal.returns-then-quick_protocols-protocol
returns-then-quick_protocols-protocol c = search line-short

pub overflow_cast-result-2 : goal.overflow_cast-result-2
overflow_cast-result-2 c = omega (arith, any_fits _ _ _ _ _ _ _ _ _ _ c.put_proposal-2.ensures (omega arith))

pub returns : goal.returns
returns c = search line-long
