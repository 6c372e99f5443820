use Rattle.quick_deliver.proofs.Ways.{opened-three}
use Rattle.quick_deliver.proofs.open.Goals as goal

pub returns : goal.returns
returns c = search opened-three
