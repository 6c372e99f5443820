use Rattle.exports_sequence.proofs.Ways.{stepped-is}
use Rattle.exports_sequence.proofs.tallowbrim_step.Goals as goal

pub returns : goal.returns
returns c = search stepped-is
