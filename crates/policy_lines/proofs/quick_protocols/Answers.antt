use Rattle.policy_lines.specs.Lines.{quick_protocols}
use Rattle.policy_lines.proofs.quick_protocols.Goals as goal

pub returns : goal.returns
unfolding quick_protocols
returns c = cc
