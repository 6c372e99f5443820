use Rattle.sa_sets.proofs.Ways.{sets_counted}
use Rattle.sa_sets.proofs.set_count.Goals as goal

pub returns : goal.returns
returns c = search sets_counted
