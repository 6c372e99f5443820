use Rattle.sa_transforms.proofs.+transforms_code.Given as goal

abbrev pub decreases-transforms_code : goal.decreases-transforms_code
decreases-transforms_code l = l.count
