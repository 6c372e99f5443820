use mathlib.Core.Path.{ap}
use mathlib.Core.Bool.{not}
use Rattle.quick_deliver.proofs.Ways.{two-other, two-refused, two-opened}
use Rattle.quick_deliver.proofs.take_two.Goals as goal

pub returns-then-not-is_longer : goal.returns-then-not-is_longer
returns-then-not-is_longer c = search two-other

pub returns-in-Err : goal.returns-in-Err
returns-in-Err c = two-refused _ _ _ _ _ _ c.requires.1 _ c.is_longer.ensures (ap not c.if-not-is_longer.false) _ c.kept.ensures _ _
    c.in-Err.ensures c.refuse-in-Err.ensures

pub returns : goal.returns
returns c = two-opened _ _ _ _ _ _ c.requires.1 _ c.is_longer.ensures (ap not c.if-not-is_longer.false) _ c.kept.ensures _
    c.in_default.ensures _ _ _ c.open.ensures
