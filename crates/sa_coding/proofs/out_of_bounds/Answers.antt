use Rattle.sa_coding.specs.Coding.{out_of_bounds}
use Rattle.sa_coding.proofs.out_of_bounds.Goals as goal

pub returns : goal.returns
unfolding out_of_bounds
returns c = cc
