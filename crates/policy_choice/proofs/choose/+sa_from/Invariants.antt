use Rattle.policy_choice.proofs.choose.+sa_from.Given as goal

abbrev pub decreases-sa_from : goal.decreases-sa_from
decreases-sa_from l = l.n
