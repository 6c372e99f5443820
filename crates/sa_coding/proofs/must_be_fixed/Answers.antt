use Rattle.sa_coding.specs.Coding.{must_be_fixed}
use Rattle.sa_coding.proofs.must_be_fixed.Goals as goal

pub returns : goal.returns
unfolding must_be_fixed
returns c = cc
