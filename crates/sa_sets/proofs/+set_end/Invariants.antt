use Rattle.sa_sets.proofs.+set_end.Given as goal

abbrev pub decreases-set_end : goal.decreases-set_end
decreases-set_end l = l.left
