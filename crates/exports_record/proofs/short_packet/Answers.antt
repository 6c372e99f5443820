use Rattle.exports_record.proofs.Ways.{short-words}
use Rattle.exports_record.proofs.short_packet.Goals as goal

pub returns : goal.returns
returns c = search short-words
