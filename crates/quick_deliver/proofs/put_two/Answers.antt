use Rattle.quick_deliver.proofs.Ways.{two-written, two_never}
use Rattle.quick_deliver.proofs.put_two.Goals as goal

pub returns-in_default : goal.returns-in_default
returns-in_default c = search two_never

pub returns : goal.returns
returns c = search two-written
