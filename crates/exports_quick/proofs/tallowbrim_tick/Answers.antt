use Rattle.exports_quick.proofs.Ways.{called-tick}
use Rattle.exports_quick.proofs.tallowbrim_tick.Goals as goal

pub returns : goal.returns
returns c = search called-tick
