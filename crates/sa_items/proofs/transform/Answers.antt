use Rattle.sa_items.proofs.Ways.{transform-at}
use Rattle.sa_items.proofs.transform.Goals as goal

pub returns : goal.returns
returns c = search transform-at
