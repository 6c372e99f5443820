use mathlib.Core.Path.{◌∙◌}
use Rattle.wire_read.proofs.Ways.{four-spelled, same_number}
use Rattle.wire_read.proofs.be32.Goals as goal

pub returns : goal.returns
returns c = c.from_be_bytes.ensures ∙ four-spelled c.bytes_at.result ∙ same_number 4 c.args.s.now c.args.at c.bytes_at.result c.bytes_at.ensures
