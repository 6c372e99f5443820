use Rattle.capture_record.proofs.Ways.{least_ah, least_esp}
use Rattle.capture_record.proofs.least_bytes.Goals as goal

pub returns-then-protocol-eq-AH : goal.returns-then-protocol-eq-AH
returns-then-protocol-eq-AH c = search least_ah

pub returns-else-protocol-eq-AH : goal.returns-else-protocol-eq-AH
returns-else-protocol-eq-AH c = search least_esp
