use Rattle.capture_frame.proofs.Ways.{destination_decides, source_decides}
use Rattle.capture_frame.proofs.deciding_port.Goals as goal

pub returns-then-ports : goal.returns-then-ports
returns-then-ports c = search destination_decides

pub returns-else-ports : goal.returns-else-ports
returns-else-ports c = search source_decides
