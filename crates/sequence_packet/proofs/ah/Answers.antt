use Rattle.sequence_packet.proofs.Ways.{ah-read, ah-refused}
use Rattle.sequence_packet.proofs.ah.Goals as goal

pub returns-then-s-be16 : goal.returns-then-s-be16
returns-then-s-be16 c = search ah-read

pub returns-else-s-be16 : goal.returns-else-s-be16
returns-else-s-be16 c = search ah-refused
