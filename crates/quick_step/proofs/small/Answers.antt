use Rattle.quick_step.specs.Steps.{small}
use Rattle.quick_step.proofs.small.Goals as goal

pub returns : goal.returns
unfolding small
returns c = cc
