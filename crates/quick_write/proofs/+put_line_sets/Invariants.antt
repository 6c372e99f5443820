use Rattle.quick_write.proofs.+put_line_sets.Given as goal

abbrev pub decreases-put_line_sets : goal.decreases-put_line_sets
decreases-put_line_sets l = l.n
