use mathlib.Core.Path.{◌∙◌}
use Rattle.wire_read.proofs.Ways.{equal-heads}
use Rattle.wire_read.proofs.equal.Goals as goal

pub returns : goal.returns
returns c = c.eq.ensures ∙ equal-heads c.args.a.now c.args.b.now
