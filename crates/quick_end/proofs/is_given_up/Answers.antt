use Rattle.std.proofs.Common.{◌∙◌}
use Rattle.quick_end.proofs.Ways.{given_up-same}
use Rattle.quick_end.proofs.is_given_up.Goals as goal

pub returns : goal.returns
returns c = c.eq.ensures ∙ given_up-same c.args.state
