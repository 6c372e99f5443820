use Rattle.identity.specs.Identity.{port_zero}
use Rattle.identity.proofs.port_zero.Goals as goal

pub returns : goal.returns
unfolding port_zero
returns c = cc
