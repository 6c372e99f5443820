use Rattle.quick_taken.proofs.Ways.{identities_compared}
use Rattle.quick_taken.proofs.identities_same.Goals as goal

pub returns : goal.returns
returns c = search identities_compared
