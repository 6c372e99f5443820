use Rattle.exports_quick.proofs.Ways.{fresh-refused, fresh-made}
use Rattle.exports_quick.proofs.tallowbrim_fresh.Goals as goal

pub returns-in-Ok : goal.returns-in-Ok
returns-in-Ok c = let told = c.in-Ok.ensures in search fresh-made

pub returns-in-Err : goal.returns-in-Err
returns-in-Err c = let told = c.in-Err.ensures in search fresh-refused
