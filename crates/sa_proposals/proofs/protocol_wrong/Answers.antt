use Rattle.sa_proposals.specs.Proposals.{protocol_wrong}
use Rattle.sa_proposals.proofs.protocol_wrong.Goals as goal

pub returns : goal.returns
unfolding protocol_wrong
returns c = cc
