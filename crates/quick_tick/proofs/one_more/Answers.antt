use Rattle.quick_tick.specs.Tick.{one_more}
use Rattle.quick_tick.proofs.one_more.Goals as goal

pub returns : goal.returns
unfolding one_more
returns c = cc
