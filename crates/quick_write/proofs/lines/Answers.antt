use Rattle.quick_write.specs.Messages.{lines}
use Rattle.quick_write.proofs.lines.Goals as goal

pub returns : goal.returns
unfolding lines
returns c = cc
