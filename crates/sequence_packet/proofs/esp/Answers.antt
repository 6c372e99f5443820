use Rattle.sequence_packet.proofs.Ways.{esp-read, esp-refused}
use Rattle.sequence_packet.proofs.esp.Goals as goal

pub returns-then-s-ge8 : goal.returns-then-s-ge8
returns-then-s-ge8 c = search esp-read

pub returns-else-s-ge8 : goal.returns-else-s-ge8
returns-else-s-ge8 c = search esp-refused
