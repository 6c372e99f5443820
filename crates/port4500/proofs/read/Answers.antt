use Rattle.port4500.proofs.Ways.{keepalive, short, key_exchange, esp}
use Rattle.port4500.proofs.read.Goals as goal

pub returns-then-equal : goal.returns-then-equal
returns-then-equal c = search keepalive

pub returns-then-s-lt4 : goal.returns-then-s-lt4
returns-then-s-lt4 c = search short

pub returns-then-equal-2 : goal.returns-then-equal-2
returns-then-equal-2 c = search key_exchange

pub returns : goal.returns
returns c = search esp
