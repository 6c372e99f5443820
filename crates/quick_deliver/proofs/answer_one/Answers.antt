use mathlib.Core.Path.{ap}
use mathlib.Core.Bool.{not}
use Rattle.quick_deliver.proofs.Ways.{one-other, one-refused, one-answered}
use Rattle.quick_deliver.proofs.answer_one.Goals as goal

pub returns-then-not-is_longer : goal.returns-then-not-is_longer
returns-then-not-is_longer c = search one-other

pub returns-in-Ok : goal.returns-in-Ok
returns-in-Ok c = one-answered _ _ _ _ _ _ c.requires.1 _ c.is_longer.ensures (ap not c.if-not-is_longer.false) _ _ c.front-book.ensures
    c.body_at.ensures _ _ _ _ c.in-Ok.ensures _ _ _ c.be_half.ensures

pub returns-in-Err : goal.returns-in-Err
returns-in-Err c = one-refused _ _ _ _ _ _ c.requires.1 _ c.is_longer.ensures (ap not c.if-not-is_longer.false) _ _ c.front-book.ensures
    c.body_at.ensures _ _ c.in-Err.ensures c.refuse-in-Err.ensures
