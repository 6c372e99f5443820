use Rattle.exports_end.proofs.Ways.{spis_both, spis_alone}
use Rattle.exports_end.proofs.spis_in.Goals as goal

pub returns-then-byte-eq2 : goal.returns-then-byte-eq2
returns-then-byte-eq2 c = search spis_both

pub returns : goal.returns
returns c = search spis_alone
