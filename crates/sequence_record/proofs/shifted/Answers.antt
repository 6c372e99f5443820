use Rattle.sequence_record.proofs.Ways.{far, near}
use Rattle.sequence_record.proofs.shifted.Goals as goal

pub returns-then-places-lt64 : goal.returns-then-places-lt64
returns-then-places-lt64 c = search near

pub returns-else-places-lt64 : goal.returns-else-places-lt64
returns-else-places-lt64 c = search far
