use Rattle.exports_end.proofs.Ways.{transforms-two, transforms-one}
use Rattle.exports_end.proofs.transforms_of.Goals as goal

pub returns-then-byte-eq2 : goal.returns-then-byte-eq2
returns-then-byte-eq2 c = search transforms-two

pub returns : goal.returns
returns c = search transforms-one
