use Rattle.capture_record.proofs.Ways.{spi-ah, spi-esp}
use Rattle.capture_record.proofs.spi_of.Goals as goal

pub returns-then-protocol-eq-AH : goal.returns-then-protocol-eq-AH
returns-then-protocol-eq-AH c = search spi-ah

pub returns-else-protocol-eq-AH : goal.returns-else-protocol-eq-AH
returns-else-protocol-eq-AH c = search spi-esp
