use Rattle.capture_header.proofs.Ways.{highest-first, two-lowest-first}
use Rattle.capture_header.proofs.Order.number16.Goals as goal

pub returns-in-Big : goal.returns-in-Big
returns-in-Big c = search highest-first

pub returns-in-Little : goal.returns-in-Little
returns-in-Little c =
    two-lowest-first c.args.self c.args.s.now c.args.at c.be16-in-Little.result c.in-Little.is (λ k. (c.type_inv.s k).fits) c.swap_bytes.result c.be16-in-Little.ensures
    c.swap_bytes.ensures
