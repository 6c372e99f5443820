use Rattle.quick_check.specs.Checks.{cookies_not_own}
use Rattle.quick_check.proofs.cookies_not_own.Goals as goal

pub returns : goal.returns
unfolding cookies_not_own
returns c = cc
