use Rattle.exports_sequence.proofs.Ways.{accepted-given, refused-given}
use Rattle.exports_sequence.proofs.give_verdict.Goals as goal

pub returns-in-Ok : goal.returns-in-Ok
returns-in-Ok c = search accepted-given

pub returns-in-Err : goal.returns-in-Err
returns-in-Err c = search refused-given
