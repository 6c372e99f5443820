use Rattle.exports_end.proofs.Ways.{end_read}
use Rattle.exports_end.proofs.end_of.Goals as goal

pub returns : goal.returns
returns c = search end_read
