use mathlib.Core.Path.{sym, ap, ◌∙◌}
use Rattle.wire_write.specs.Put.{paste}
use Rattle.wire_write.proofs.Laws.{four_bytes_lem}
use Rattle.wire_write.proofs.put_be32.Goals as goal

pub returns : goal.returns
returns c = c.put_bytes.ensures ∙ ap (paste c.args.buffer.now c.args.at) (c.to_be_bytes.ensures ∙ sym (four_bytes_lem c.args.long))
