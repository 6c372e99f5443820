use Rattle.policy_lines.specs.Lines.{quick_at}
use Rattle.policy_lines.proofs.quick_at.Goals as goal

pub returns : goal.returns
unfolding quick_at
returns c = cc
