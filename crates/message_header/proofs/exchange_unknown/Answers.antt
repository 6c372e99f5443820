use Rattle.message_header.specs.Header.{exchange_unknown}
use Rattle.message_header.proofs.exchange_unknown.Goals as goal

pub returns : goal.returns
unfolding exchange_unknown
returns c = cc
