use Rattle.der.specs.Der.{constructed}
use Rattle.der.proofs.constructed.Goals as goal

pub returns : goal.returns
unfolding constructed
returns c = cc
