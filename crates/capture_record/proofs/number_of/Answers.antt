use Rattle.capture_record.proofs.Ways.{number-ah, number-esp}
use Rattle.capture_record.proofs.number_of.Goals as goal

pub returns-then-protocol-eq-AH : goal.returns-then-protocol-eq-AH
returns-then-protocol-eq-AH c = search number-ah

pub returns-else-protocol-eq-AH : goal.returns-else-protocol-eq-AH
returns-else-protocol-eq-AH c = search number-esp
