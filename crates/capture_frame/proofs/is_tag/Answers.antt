use Rattle.capture_frame.specs.Frame.{is_tag}
use Rattle.capture_frame.proofs.is_tag.Goals as goal

pub returns : goal.returns
unfolding is_tag
returns c = cc
