use Rattle.sa_coding.specs.Coding.{is_duration}
use Rattle.sa_coding.proofs.is_duration.Goals as goal

pub returns : goal.returns
unfolding is_duration
returns c = cc
