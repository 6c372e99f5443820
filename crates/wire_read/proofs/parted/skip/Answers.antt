use Rattle.wire_read.proofs.Parts.{skip-on, skip_end}
use Rattle.wire_read.proofs.parted.skip.Goals as goal

pub loop-skipped-preserved : goal.loop-skipped-preserved
loop-skipped-preserved g c = search (skip-on g.P.Parted.after_part)

pub returns : goal.returns
returns g c = search (skip_end g.P.Parted.after_part)
