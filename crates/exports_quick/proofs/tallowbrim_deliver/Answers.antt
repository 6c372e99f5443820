use Rattle.exports_quick.proofs.Ways.{called-deliver}
use Rattle.exports_quick.proofs.tallowbrim_deliver.Goals as goal

pub returns : goal.returns
returns c = search called-deliver
