use Rattle.capture_frame.proofs.Ways.{carried-short, carried_type, carried-whole}
use Rattle.capture_frame.proofs.carried.Goals as goal

pub returns-then-s-original : goal.returns-then-s-original
returns-then-s-original c = search carried-short

pub ether_type-requires : goal.ether_type-requires
ether_type-requires c = search carried_type

pub returns : goal.returns
returns c = search carried-whole
