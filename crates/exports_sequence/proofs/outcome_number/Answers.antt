use Rattle.exports_sequence.proofs.Ways.{done-number, not-done-number}
use Rattle.exports_sequence.proofs.outcome_number.Goals as goal

pub returns-in-Ok : goal.returns-in-Ok
returns-in-Ok c = search done-number

pub returns-in-Err : goal.returns-in-Err
returns-in-Err c = search not-done-number
