use Rattle.sa_attribute.specs.Attributes.{sent_fixed}
use Rattle.sa_attribute.proofs.sent_fixed.Goals as goal

pub returns : goal.returns
unfolding sent_fixed
returns c = cc
