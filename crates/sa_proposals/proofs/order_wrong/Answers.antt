use Rattle.sa_proposals.proofs.ProposalWays.{wrong_order}
use Rattle.sa_proposals.proofs.order_wrong.Goals as goal

pub returns : goal.returns
returns c = search wrong_order
