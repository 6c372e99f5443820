use Rattle.exports_sequence.proofs.Ways.{add_given}
use Rattle.exports_sequence.proofs.tallowbrim_add.Goals as goal

pub returns : goal.returns
returns c = search add_given
