use Rattle.exports_quick.proofs.Ways.{nonce-given}
use Rattle.exports_quick.proofs.tallowbrim_nonce.Goals as goal

pub returns : goal.returns
returns c = search nonce-given
