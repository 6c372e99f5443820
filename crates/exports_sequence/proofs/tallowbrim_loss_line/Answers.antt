use Rattle.exports_sequence.proofs.Ways.{line-given}
use Rattle.exports_sequence.proofs.tallowbrim_loss_line.Goals as goal

pub returns : goal.returns
returns c = search line-given
