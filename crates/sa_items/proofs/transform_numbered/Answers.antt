use Rattle.sa_items.proofs.Ways.{transform-of-number}
use Rattle.sa_items.proofs.transform_numbered.Goals as goal

pub returns : goal.returns
returns c = search transform-of-number
