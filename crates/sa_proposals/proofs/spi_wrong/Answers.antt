use Rattle.sa_proposals.proofs.ProposalWays.{wrong_spi}
use Rattle.sa_proposals.proofs.spi_wrong.Goals as goal

pub returns : goal.returns
returns c = search wrong_spi
