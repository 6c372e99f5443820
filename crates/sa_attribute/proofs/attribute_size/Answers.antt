use Rattle.wire_read.proofs.Tests.{told_then}
use Rattle.sa_attribute.specs.Attributes.{attribute_size}
use Rattle.sa_attribute.proofs.Ways.{size-variable}
use Rattle.sa_attribute.proofs.attribute_size.Goals as goal

pub returns-then-sent_fixed : goal.returns-then-sent_fixed
unfolding attribute_size
returns-then-sent_fixed c = search told_then

pub returns-else-sent_fixed : goal.returns-else-sent_fixed
unfolding attribute_size
returns-else-sent_fixed c = search size-variable
