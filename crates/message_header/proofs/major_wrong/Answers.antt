use Rattle.message_header.specs.Header.{major_wrong}
use Rattle.message_header.proofs.major_wrong.Goals as goal

pub returns : goal.returns
unfolding major_wrong
returns c = cc
