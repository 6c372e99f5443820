use mathlib.Core.Path.{◌∙◌}
use Rattle.wire_read.proofs.Ways.{eight-spelled, same_number}
use Rattle.wire_read.proofs.be64.Goals as goal

pub returns : goal.returns
returns c = c.from_be_bytes.ensures ∙ eight-spelled c.bytes_at.result ∙ same_number 8 c.args.s.now c.args.at c.bytes_at.result c.bytes_at.ensures
