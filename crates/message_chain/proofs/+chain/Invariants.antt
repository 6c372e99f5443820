use Rattle.message_chain.proofs.+chain.Given as goal

abbrev pub decreases-chain : goal.decreases-chain
decreases-chain l = l.left
