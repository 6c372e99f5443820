use Rattle.sa_attribute.specs.Attributes.{attribute_count}
use Rattle.sa_attribute.proofs.attribute_count.Goals as goal

pub returns : goal.returns
unfolding attribute_count
returns c = cc
