use Rattle.exports_sequence.proofs.Ways.{send_number, send_refused}
use Rattle.exports_sequence.proofs.tallowbrim_send.Goals as goal

pub returns-in-Ok : goal.returns-in-Ok
returns-in-Ok c = search send_number

pub returns-in-Err : goal.returns-in-Err
returns-in-Err c = search send_refused
