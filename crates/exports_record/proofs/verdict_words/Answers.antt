use Rattle.exports_record.proofs.Ways.{verdict-accepted, verdict-refused}
use Rattle.exports_record.proofs.verdict_words.Goals as goal

pub returns-in-Ok : goal.returns-in-Ok
returns-in-Ok c = search verdict-accepted

pub returns-in-Err : goal.returns-in-Err
returns-in-Err c = search verdict-refused
