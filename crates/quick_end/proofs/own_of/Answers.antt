use Rattle.quick_end.proofs.Ways.{own-made}
use Rattle.quick_end.proofs.own_of.Goals as goal

pub returns : goal.returns
returns c = search own-made
