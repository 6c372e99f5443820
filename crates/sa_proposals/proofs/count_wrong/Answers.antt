use Rattle.sa_proposals.specs.Proposals.{count_wrong}
use Rattle.sa_proposals.proofs.count_wrong.Goals as goal

pub returns : goal.returns
unfolding count_wrong
returns c = cc
