use Rattle.policy_choice.proofs.choose.+line_from.Given as goal

abbrev pub decreases-line_from : goal.decreases-line_from
decreases-line_from l = l.n
