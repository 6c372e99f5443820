use Rattle.sa_items.specs.Items.{proposal_count}
use Rattle.sa_items.proofs.proposal_count.Goals as goal

pub returns : goal.returns
unfolding proposal_count
returns c = cc
