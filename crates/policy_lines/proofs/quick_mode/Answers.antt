use Rattle.policy_lines.specs.Lines.{quick_mode}
use Rattle.policy_lines.proofs.quick_mode.Goals as goal

pub returns : goal.returns
unfolding quick_mode
returns c = cc
