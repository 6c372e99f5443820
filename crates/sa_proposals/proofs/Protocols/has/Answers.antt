use Rattle.sa_proposals.specs.Proposals.{has}
use Rattle.sa_proposals.proofs.Protocols.has.Goals as goal

pub returns : goal.returns
unfolding has
returns c = cc
