use Rattle.message_header.specs.Header.{flags_wrong}
use Rattle.message_header.proofs.flags_wrong.Goals as goal

pub returns : goal.returns
unfolding flags_wrong
returns c = cc
