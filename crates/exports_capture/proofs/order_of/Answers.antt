use Rattle.exports_capture.proofs.Ways.{order_big, order_little}
use Rattle.exports_capture.proofs.order_of.Goals as goal

pub returns-then-order-eq1 : goal.returns-then-order-eq1
returns-then-order-eq1 c = search order_big

pub returns-else-order-eq1 : goal.returns-else-order-eq1
returns-else-order-eq1 c = search order_little
