use Rattle.sa_proposals.specs.Proposals.{none}
use Rattle.sa_proposals.proofs.ProposalWays.{set-goes-on, set-begins}
use Rattle.sa_proposals.proofs.set_before.Goals as goal

pub returns-then-number-previous : goal.returns-then-number-previous
returns-then-number-previous c = search set-goes-on

pub returns-else-number-previous : goal.returns-else-number-previous
unfolding none
returns-else-number-previous c = search set-begins
