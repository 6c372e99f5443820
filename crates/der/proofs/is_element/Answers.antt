use Rattle.der.specs.Der.{is_element}
use Rattle.der.proofs.is_element.Goals as goal

pub returns : goal.returns
unfolding is_element
returns c = cc
