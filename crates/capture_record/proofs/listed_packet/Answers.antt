use Rattle.capture_record.proofs.Ways.{short-listed, whole-listed}
use Rattle.capture_record.proofs.listed_packet.Goals as goal

pub returns-then-s-least_bytes : goal.returns-then-s-least_bytes
returns-then-s-least_bytes c = search short-listed

pub returns : goal.returns
returns c = search whole-listed
