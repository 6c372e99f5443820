use Rattle.exports_end.proofs.Ways.{state-tagged}
use Rattle.exports_end.proofs.state_number.Goals as goal

pub returns : goal.returns
returns c = state-tagged c.args.state
