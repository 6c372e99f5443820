use Rattle.sa_attribute.specs.Attributes.{attribute}
use Rattle.sa_attribute.proofs.attribute.Goals as goal

pub returns : goal.returns
unfolding attribute
returns c = cc
