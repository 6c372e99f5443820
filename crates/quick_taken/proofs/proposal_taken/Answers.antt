use Rattle.quick_taken.proofs.Ways.{proposal-compared}
use Rattle.quick_taken.proofs.proposal_taken.Goals as goal

pub returns : goal.returns
returns c = search proposal-compared
