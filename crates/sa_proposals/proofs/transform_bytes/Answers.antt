use Rattle.sa_proposals.proofs.ProposalWays.{transforms-taken}
use Rattle.sa_proposals.proofs.transform_bytes.Goals as goal

pub returns : goal.returns
returns c = search transforms-taken
