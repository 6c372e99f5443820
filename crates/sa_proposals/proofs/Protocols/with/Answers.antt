use Rattle.sa_proposals.specs.Proposals.{with}
use Rattle.sa_proposals.proofs.Protocols.with.Goals as goal

pub returns : goal.returns
unfolding with
returns c = cc
