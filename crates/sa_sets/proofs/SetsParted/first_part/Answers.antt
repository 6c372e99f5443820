use Rattle.sa_sets.proofs.Ways.{set_first}
use Rattle.sa_sets.proofs.SetsParted.first_part.Goals as goal

pub returns : goal.returns
returns c = search set_first
