use Rattle.policy_lines.specs.Lines.{quick_count}
use Rattle.policy_lines.proofs.quick_count.Goals as goal

pub returns : goal.returns
unfolding quick_count
returns c = cc
