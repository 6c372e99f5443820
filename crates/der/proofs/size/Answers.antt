use Rattle.der.proofs.Ways.{size_none, size-some}
use Rattle.der.proofs.size.Goals as goal

pub returns-then-tag_wrong-head : goal.returns-then-tag_wrong-head
returns-then-tag_wrong-head c = search size_none

pub returns-else-tag_wrong-head : goal.returns-else-tag_wrong-head
returns-else-tag_wrong-head c = search size-some
