use Rattle.quick_taken.proofs.Ways.{set-offered}
use Rattle.quick_taken.proofs.offered_set.Goals as goal

pub returns : goal.returns
returns c = search set-offered
