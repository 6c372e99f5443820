use Rattle.policy_lines.specs.Lines.{quick_start}
use Rattle.policy_lines.proofs.quick_start.Goals as goal

pub returns : goal.returns
unfolding quick_start
returns c = cc
