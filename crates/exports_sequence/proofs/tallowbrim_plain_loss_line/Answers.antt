use Rattle.exports_sequence.proofs.Ways.{plain-line-given}
use Rattle.exports_sequence.proofs.tallowbrim_plain_loss_line.Goals as goal

pub returns : goal.returns
returns c = search plain-line-given
