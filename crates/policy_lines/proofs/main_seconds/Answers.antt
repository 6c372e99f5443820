use Rattle.policy_lines.specs.Lines.{main_seconds}
use Rattle.policy_lines.proofs.main_seconds.Goals as goal

pub returns : goal.returns
unfolding main_seconds
returns c = cc
