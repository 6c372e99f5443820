use Rattle.sequence_table.proofs.Ways.{holds-spi, holds_not}
use Rattle.sequence_table.proofs.table.holds.Goals as goal

pub returns-then-t-at : goal.returns-then-t-at
returns-then-t-at c = search holds-spi

pub returns-else-t-at : goal.returns-else-t-at
returns-else-t-at c = search holds_not
