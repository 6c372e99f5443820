use Rattle.quick_begin.proofs.Ways.{few-first, few-second, begin-refused, begin-sent}
use Rattle.quick_begin.proofs.begin.Goals as goal

pub returns-in-Err : goal.returns-in-Err
returns-in-Err c = let told = c.in-Err.ensures in search begin-refused

pub put_one-requires : goal.put_one-requires
put_one-requires c = let passes = c.in_default.ensures in (search few-first, search few-second)

pub put_one-size-requires : goal.put_one-size-requires
put_one-size-requires c = let passes = c.in_default.ensures in (search few-first, search few-second)

pub returns : goal.returns
returns c = let passes = c.in_default.ensures in search begin-sent
