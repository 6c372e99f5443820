use Rattle.quick_taken.proofs.Ways.{set-replied}
use Rattle.quick_taken.proofs.replied_set.Goals as goal

pub returns : goal.returns
returns c = search set-replied
