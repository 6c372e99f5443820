use Rattle.exports_quick.proofs.Ways.{agreed_refused, agreed_given}
use Rattle.exports_quick.proofs.tallowbrim_agreed.Goals as goal

pub returns-then-progress-eq0 : goal.returns-then-progress-eq0
returns-then-progress-eq0 c = search agreed_refused

pub returns : goal.returns
returns c = search agreed_given
