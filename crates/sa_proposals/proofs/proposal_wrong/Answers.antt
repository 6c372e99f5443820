use Rattle.sa_proposals.proofs.ProposalWays.{wrong_fields}
use Rattle.sa_proposals.proofs.proposal_wrong.Goals as goal

pub returns : goal.returns
returns c = search wrong_fields
