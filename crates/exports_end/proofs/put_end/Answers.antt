use Rattle.exports_end.proofs.Ways.{end-written}
use Rattle.exports_end.proofs.put_end.Goals as goal

pub returns : goal.returns
returns c = search end-written
