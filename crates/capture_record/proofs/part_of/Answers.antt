use Rattle.capture_record.proofs.Ways.{part-is}
use Rattle.capture_record.proofs.part_of.Goals as goal

pub returns : goal.returns
returns c = search part-is
