use Rattle.capture_record.proofs.Ways.{packet-listed}
use Rattle.capture_record.proofs.packet_listed.Goals as goal

pub returns : goal.returns
returns c = search packet-listed
