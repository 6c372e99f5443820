use Rattle.exports_capture.proofs.Ways.{cause_given}
use Rattle.exports_capture.proofs.tallowbrim_header_cause.Goals as goal

pub returns : goal.returns
returns c = search cause_given
