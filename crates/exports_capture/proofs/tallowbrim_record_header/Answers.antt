use Rattle.exports_capture.proofs.Ways.{record_read, record_cut, record_refused}
use Rattle.exports_capture.proofs.tallowbrim_record_header.Goals as goal

pub returns-in-Ok-Some : goal.returns-in-Ok-Some
returns-in-Ok-Some c = search record_read

pub returns-in-Ok-None : goal.returns-in-Ok-None
returns-in-Ok-None c = search record_cut

pub returns-in-Err : goal.returns-in-Err
returns-in-Err c = search record_refused
