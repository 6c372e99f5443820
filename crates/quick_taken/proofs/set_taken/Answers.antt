use Rattle.quick_taken.proofs.Ways.{set-compared}
use Rattle.quick_taken.proofs.set_taken.Goals as goal

pub returns : goal.returns
returns c = search set-compared
