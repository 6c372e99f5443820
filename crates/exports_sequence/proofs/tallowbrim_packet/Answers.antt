use Rattle.exports_sequence.proofs.Ways.{packet-given}
use Rattle.exports_sequence.proofs.tallowbrim_packet.Goals as goal

pub returns : goal.returns
returns c = search packet-given
