use Rattle.der.specs.Der.{tag_wrong}
use Rattle.der.proofs.tag_wrong.Goals as goal

pub returns : goal.returns
unfolding tag_wrong
returns c = cc
