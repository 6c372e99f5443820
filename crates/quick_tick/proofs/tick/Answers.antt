use Rattle.quick_tick.proofs.Ways.{tick-refused, tick_open, tick_again, tick-last}
use Rattle.quick_tick.proofs.tick.Goals as goal

pub returns-in-Err : goal.returns-in-Err
returns-in-Err c = let told = c.in-Err.ensures in search tick-refused

pub returns-then-is_open : goal.returns-then-is_open
returns-then-is_open c = let passes = c.in_default.ensures in search tick_open

pub returns-then-progress-lt4 : goal.returns-then-progress-lt4
returns-then-progress-lt4 c = let passes = c.in_default.ensures in search tick_again

pub returns : goal.returns
returns c = let passes = c.in_default.ensures in search tick-last
