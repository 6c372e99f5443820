use Rattle.exports_sequence.proofs.Ways.{plain-given}
use Rattle.exports_sequence.proofs.tallowbrim_plain_step.Goals as goal

pub returns : goal.returns
returns c = search plain-given
