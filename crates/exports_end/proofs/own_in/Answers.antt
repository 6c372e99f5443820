use Rattle.exports_end.proofs.Ways.{own_read}
use Rattle.exports_end.proofs.own_in.Goals as goal

pub returns : goal.returns
returns c = search own_read
