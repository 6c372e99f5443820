use Rattle.quick_step.specs.Steps.{kept}
use Rattle.quick_step.proofs.kept.Goals as goal

pub returns : goal.returns
unfolding kept
returns c = cc
