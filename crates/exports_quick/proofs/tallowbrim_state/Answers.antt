use Rattle.exports_quick.proofs.Ways.{state_given}
use Rattle.exports_quick.proofs.tallowbrim_state.Goals as goal

pub returns : goal.returns
returns c = search state_given
