use Rattle.sa_coding.specs.Coding.{is_life_type}
use Rattle.sa_coding.proofs.is_life_type.Goals as goal

pub returns : goal.returns
unfolding is_life_type
returns c = cc
