use Rattle.sa_coding.proofs.Ways.{values_same}
use Rattle.sa_coding.proofs.same_value.Goals as goal

pub returns : goal.returns
returns c = search values_same
