use Rattle.message_header.specs.Header.{cookie_zero}
use Rattle.message_header.proofs.cookie_zero.Goals as goal

pub returns : goal.returns
unfolding cookie_zero
returns c = cc
