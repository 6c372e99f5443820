use Rattle.sa_fields.specs.Fields.{protocol}
use Rattle.sa_fields.proofs.protocol.Goals as goal

pub returns : goal.returns
unfolding protocol
returns c = cc
