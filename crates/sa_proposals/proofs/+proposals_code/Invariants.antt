use Rattle.sa_proposals.proofs.+proposals_code.Given as goal

abbrev pub decreases-proposals_code : goal.decreases-proposals_code
decreases-proposals_code l = l.left
