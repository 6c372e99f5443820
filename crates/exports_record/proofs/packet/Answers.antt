use Rattle.exports_record.proofs.Ways.{packet-words}
use Rattle.exports_record.proofs.packet.Goals as goal

pub returns : goal.returns
returns c = search packet-words
