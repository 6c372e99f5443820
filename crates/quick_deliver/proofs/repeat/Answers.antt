use Rattle.quick_deliver.proofs.Ways.{repeated-step, repeated-output}
use Rattle.quick_deliver.proofs.repeat.Goals as goal

pub returns : goal.returns
returns c = (search repeated-step, search repeated-output)
