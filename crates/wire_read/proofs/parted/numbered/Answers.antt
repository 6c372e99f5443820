use Rattle.wire_read.proofs.Parts.{numbered-here, numbered-on, numbered_none}
use Rattle.wire_read.proofs.parted.numbered.Goals as goal

pub returns-then-byte-number : goal.returns-then-byte-number
returns-then-byte-number g c = search (numbered-here g.P.Parted.first_part g.P.Parted.after_part)

pub loop-passed-preserved : goal.loop-passed-preserved
loop-passed-preserved g c = search (numbered-on g.P.Parted.first_part g.P.Parted.after_part)

pub returns : goal.returns
returns g c = search (numbered_none g.P.Parted.first_part g.P.Parted.after_part)
