use Rattle.exports_end.proofs.Ways.{role-tagged}
use Rattle.exports_end.proofs.role_number.Goals as goal

pub returns : goal.returns
returns c = role-tagged c.args.role
