use Rattle.std.proofs.Common.{◌∙◌}
use Rattle.quick_end.proofs.Ways.{initiator-same}
use Rattle.quick_end.proofs.is_initiator.Goals as goal

pub returns : goal.returns
returns c = c.eq.ensures ∙ initiator-same c.args.role
