use Rattle.sa_sets.proofs.Ways.{set_at}
use Rattle.sa_sets.proofs.set.Goals as goal

pub returns : goal.returns
returns c = search set_at
