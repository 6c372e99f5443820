use Rattle.sa_coding.proofs.Ways.{wrong_form}
use Rattle.sa_coding.proofs.fixed_wrong.Goals as goal

pub returns : goal.returns
returns c = search wrong_form
