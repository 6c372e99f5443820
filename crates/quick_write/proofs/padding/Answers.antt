use Rattle.quick_write.specs.Messages.{padding}
use Rattle.quick_write.proofs.padding.Goals as goal

pub returns : goal.returns
unfolding padding
returns c = cc
