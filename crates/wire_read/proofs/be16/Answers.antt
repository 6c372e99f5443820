use mathlib.Core.Path.{◌∙◌}
use Rattle.wire_read.proofs.Ways.{two-spelled, same_number}
use Rattle.wire_read.proofs.be16.Goals as goal

pub returns : goal.returns
returns c = c.from_be_bytes.ensures ∙ two-spelled c.bytes_at.result ∙ same_number 2 c.args.s.now c.args.at c.bytes_at.result c.bytes_at.ensures
