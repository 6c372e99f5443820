use Rattle.exports_sequence.proofs.Ways.{remove_given}
use Rattle.exports_sequence.proofs.tallowbrim_remove.Goals as goal

pub returns : goal.returns
returns c = search remove_given
