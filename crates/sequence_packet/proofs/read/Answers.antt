use Rattle.sequence_packet.proofs.Ways.{read_unknown, read-ah, read-esp}
use Rattle.sequence_packet.proofs.read.Goals as goal

pub returns-in-2 : goal.returns-in-2
returns-in-2 c = search read-ah

pub returns-in-3 : goal.returns-in-3
returns-in-3 c = search read-esp

pub returns-in_default : goal.returns-in_default
returns-in_default c = search read_unknown
