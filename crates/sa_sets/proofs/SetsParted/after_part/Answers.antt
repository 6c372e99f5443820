use Rattle.sa_sets.proofs.Ways.{set_after}
use Rattle.sa_sets.proofs.SetsParted.after_part.Goals as goal

pub returns : goal.returns
returns c = search set_after
