use Rattle.exports_quick.proofs.Ways.{called-begin}
use Rattle.exports_quick.proofs.tallowbrim_begin.Goals as goal

pub returns : goal.returns
returns c = search called-begin
