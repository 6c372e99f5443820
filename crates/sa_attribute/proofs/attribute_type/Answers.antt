use Rattle.sa_attribute.specs.Attributes.{attribute_type}
use Rattle.sa_attribute.proofs.attribute_type.Goals as goal

pub returns : goal.returns
unfolding attribute_type
returns c = cc
