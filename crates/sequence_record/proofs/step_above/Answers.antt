use Rattle.sequence_record.proofs.Ways.{above_broken, above_fits, above_accepted}
use Rattle.sequence_record.proofs.step_above.Goals as goal

pub returns-then-not-integrity : goal.returns-then-not-integrity
returns-then-not-integrity c = search above_broken

pub overflow_add-result : goal.overflow_add-result
overflow_add-result c = record { fits = search above_fits }

pub returns : goal.returns
returns c = search above_accepted
