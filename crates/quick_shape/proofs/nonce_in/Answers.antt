use Rattle.quick_shape.proofs.Ways.{nonce-refused, nonce-body, nonce-other}
use Rattle.quick_shape.proofs.nonce_in.Goals as goal

pub returns-in_default : goal.returns-in_default
returns-in_default c = let told = c.in_default.ensures in search nonce-refused

pub returns-then-exchange-is_longer : goal.returns-then-exchange-is_longer
returns-then-exchange-is_longer c = let told = c.in-Ok.ensures in search nonce-body

pub returns : goal.returns
returns c = let told = c.in-Ok.ensures in search nonce-other
