use Rattle.message_header.specs.Header.{message_id_wrong}
use Rattle.message_header.proofs.message_id_wrong.Goals as goal

pub returns : goal.returns
unfolding message_id_wrong
returns c = cc
