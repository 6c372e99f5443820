use Rattle.std.proofs.Common.{◌∙◌}
use Rattle.quick_end.proofs.Ways.{book-fits, nonce-fits, fresh-made, fresh-refused, made-handed_on}
use Rattle.quick_end.proofs.fresh.Goals as goal

pub returns-in_err-fresh_code : goal.returns-in_err-fresh_code
returns-in_err-fresh_code c = let told = c.in_err-fresh_code.ensures in
    made-handed_on _ c.from_residual.result _ c.from_residual.ensures.1 ∙ search fresh-refused

pub own_of-own-requires : goal.own_of-own-requires
own_of-own-requires c = let passes = c.in_ok-fresh_code.ensures in (search book-fits, search nonce-fits)

pub returns : goal.returns
returns c = let passes = c.in_ok-fresh_code.ensures in search fresh-made
