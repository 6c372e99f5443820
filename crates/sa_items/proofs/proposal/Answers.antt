use Rattle.sa_items.proofs.Ways.{proposal-at}
use Rattle.sa_items.proofs.proposal.Goals as goal

pub returns : goal.returns
returns c = search proposal-at
