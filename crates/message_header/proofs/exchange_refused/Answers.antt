use Rattle.message_header.specs.Header.{exchange_refused}
use Rattle.message_header.proofs.exchange_refused.Goals as goal

pub returns : goal.returns
unfolding exchange_refused
returns c = cc
