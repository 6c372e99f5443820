use Rattle.wire_read.proofs.Parts.{parts-end, parts-on, parts_all}
use Rattle.wire_read.proofs.parted.parts.Goals as goal

pub returns-then-is_empty : goal.returns-then-is_empty
returns-then-is_empty g c = search (parts-end g.P.Parted.after_part)

pub loop-counted-preserved : goal.loop-counted-preserved
loop-counted-preserved g c = search (parts-on g.P.Parted.after_part)

pub returns : goal.returns
returns g c = search (parts_all g.P.Parted.after_part)
