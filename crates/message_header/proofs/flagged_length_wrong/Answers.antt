use Rattle.message_header.specs.Header.{flagged_length_wrong}
use Rattle.message_header.proofs.flagged_length_wrong.Goals as goal

pub returns : goal.returns
unfolding flagged_length_wrong
returns c = cc
