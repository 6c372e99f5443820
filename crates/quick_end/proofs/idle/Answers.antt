use Rattle.quick_end.specs.Fresh.{idle}
use Rattle.quick_end.proofs.idle.Goals as goal

pub returns : goal.returns
unfolding idle
returns c = cc
