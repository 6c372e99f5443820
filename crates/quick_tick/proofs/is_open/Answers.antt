use Rattle.std.proofs.Common.{◌∙◌}
use Rattle.quick_tick.proofs.Ways.{open-same}
use Rattle.quick_tick.proofs.is_open.Goals as goal

pub returns : goal.returns
returns c = c.eq.ensures ∙ open-same c.args.state
