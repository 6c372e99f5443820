use Rattle.exports_capture.proofs.Ways.{file_read, file_refused}
use Rattle.exports_capture.proofs.tallowbrim_file_header.Goals as goal

pub returns : goal.returns
returns c = search file_read

pub returns-in-Err : goal.returns-in-Err
returns-in-Err c = search file_refused
