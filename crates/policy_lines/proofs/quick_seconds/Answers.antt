use Rattle.policy_lines.specs.Lines.{quick_seconds}
use Rattle.policy_lines.proofs.quick_seconds.Goals as goal

pub returns : goal.returns
unfolding quick_seconds
returns c = cc
