use Rattle.quick_write.proofs.Ways.{fitting_set, fitting_first, fitting_second, longer-refused, longer_passed}
use Rattle.quick_write.proofs.put_longer.Goals as goal

pub returns-then-set-first : goal.returns-then-set-first
returns-then-set-first c = search longer-refused

pub put_fitting-requires : goal.put_fitting-requires
put_fitting-requires c = (search fitting_set, search fitting_first, search fitting_second)

pub returns : goal.returns
returns c = search longer_passed
