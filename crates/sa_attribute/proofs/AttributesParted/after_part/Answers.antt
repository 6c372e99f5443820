use Rattle.sa_attribute.specs.Attributes.{after_attribute}
use Rattle.sa_attribute.proofs.AttributesParted.after_part.Goals as goal

pub returns : goal.returns
unfolding after_attribute
returns c = cc
