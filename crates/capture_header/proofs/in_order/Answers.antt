use Rattle.capture_header.proofs.Ways.{in_order_read, in_order_refused}
use Rattle.capture_header.proofs.in_order.Goals as goal

pub returns-then-number16-number32 : goal.returns-then-number16-number32
returns-then-number16-number32 c = search in_order_read

pub returns : goal.returns
returns c = search in_order_refused
