use Rattle.capture_frame.specs.Frame.{not_ipv4}
use Rattle.capture_frame.proofs.not_ipv4.Goals as goal

pub returns : goal.returns
unfolding not_ipv4
returns c = cc
