use Rattle.der.specs.Der.{is_name}
use Rattle.der.proofs.is_name.Goals as goal

pub returns : goal.returns
unfolding is_name
returns c = cc
