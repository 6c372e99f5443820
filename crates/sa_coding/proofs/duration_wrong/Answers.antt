use Rattle.sa_coding.proofs.Ways.{wrong_duration}
use Rattle.sa_coding.proofs.duration_wrong.Goals as goal

pub returns : goal.returns
returns c = search wrong_duration
