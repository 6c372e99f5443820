use Rattle.capture_words.proofs.Ways.{packet-said}
use Rattle.capture_words.proofs.packet.Goals as goal

pub returns : goal.returns
returns g c = search packet-said
