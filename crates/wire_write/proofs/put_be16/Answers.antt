use mathlib.Core.Path.{sym, ap, ◌∙◌}
use Rattle.wire_write.specs.Put.{paste}
use Rattle.wire_write.proofs.Laws.{two_bytes}
use Rattle.wire_write.proofs.put_be16.Goals as goal

pub returns : goal.returns
returns c = c.put_bytes.ensures ∙ ap (paste c.args.buffer.now c.args.at) (c.to_be_bytes.ensures ∙ sym (two_bytes c.args.x))
