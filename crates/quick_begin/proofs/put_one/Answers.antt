use Rattle.quick_begin.proofs.Ways.{one_written, one_never}
use Rattle.quick_begin.proofs.put_one.Goals as goal

pub returns-in_default : goal.returns-in_default
returns-in_default c = search one_never

pub returns : goal.returns
returns c = search one_written
