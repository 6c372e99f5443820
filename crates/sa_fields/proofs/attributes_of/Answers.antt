use Rattle.sa_fields.specs.Fields.{attributes_of}
use Rattle.sa_fields.proofs.attributes_of.Goals as goal

pub returns : goal.returns
unfolding attributes_of
returns c = cc
