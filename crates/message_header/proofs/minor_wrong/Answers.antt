use Rattle.message_header.specs.Header.{minor_wrong}
use Rattle.message_header.proofs.minor_wrong.Goals as goal

pub returns : goal.returns
unfolding minor_wrong
returns c = cc
