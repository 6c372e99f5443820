use Rattle.quick_step.specs.Steps.{with_state}
use Rattle.quick_step.proofs.with_state.Goals as goal

pub returns : goal.returns
unfolding with_state
returns c = cc
