use Rattle.exports_end.proofs.Ways.{agreed_read}
use Rattle.exports_end.proofs.agreed_of.Goals as goal

pub returns : goal.returns
returns c = search agreed_read
