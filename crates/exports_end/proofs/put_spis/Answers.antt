use Rattle.exports_end.proofs.Ways.{spis_written}
use Rattle.exports_end.proofs.put_spis.Goals as goal

pub returns : goal.returns
returns c = search spis_written
