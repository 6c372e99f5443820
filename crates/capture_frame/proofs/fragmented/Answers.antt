use Rattle.capture_frame.specs.Frame.{fragmented}
use Rattle.capture_frame.proofs.fragmented.Goals as goal

pub returns : goal.returns
unfolding fragmented
returns c = cc
