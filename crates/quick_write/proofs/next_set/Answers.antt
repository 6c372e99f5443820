use Rattle.quick_write.proofs.Ways.{next_last, next_more}
use Rattle.quick_write.proofs.next_set.Goals as goal

pub returns-then-n-le1 : goal.returns-then-n-le1
returns-then-n-le1 c = search next_last

pub returns-else-n-le1 : goal.returns-else-n-le1
returns-else-n-le1 c = search next_more
