use Rattle.sa_sets.proofs.Ways.{set-of-number}
use Rattle.sa_sets.proofs.set_numbered.Goals as goal

pub returns : goal.returns
returns c = search set-of-number
