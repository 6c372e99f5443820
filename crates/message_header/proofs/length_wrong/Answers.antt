use Rattle.message_header.specs.Header.{length_wrong}
use Rattle.message_header.proofs.length_wrong.Goals as goal

pub returns : goal.returns
unfolding length_wrong
returns c = cc
