use Rattle.std.proofs.Common.{◌∙◌}
use Rattle.quick_end.proofs.Ways.{idle-same}
use Rattle.quick_end.proofs.is_idle.Goals as goal

pub returns : goal.returns
returns c = c.eq.ensures ∙ idle-same c.args.state
