use Rattle.exports_sequence.proofs.Ways.{loss-line, loss-refused}
use Rattle.exports_sequence.proofs.tallowbrim_loss.Goals as goal

pub returns-in-Ok : goal.returns-in-Ok
returns-in-Ok c = search loss-line

pub returns-in-Err : goal.returns-in-Err
returns-in-Err c = search loss-refused
