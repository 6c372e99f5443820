use Rattle.exports_end.proofs.Ways.{progress-read}
use Rattle.exports_end.proofs.progress_of.Goals as goal

pub returns : goal.returns
returns c = search progress-read
