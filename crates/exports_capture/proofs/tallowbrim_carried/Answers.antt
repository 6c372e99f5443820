use Rattle.exports_capture.proofs.Ways.{frame-given}
use Rattle.exports_capture.proofs.tallowbrim_carried.Goals as goal

pub returns : goal.returns
returns c = search frame-given
