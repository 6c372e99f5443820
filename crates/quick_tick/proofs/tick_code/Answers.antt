use Rattle.quick_tick.proofs.Ways.{tick-small, tick-up, tick-idle, tick_passed}
use Rattle.quick_tick.proofs.tick_code.Goals as goal

pub returns-then-tight : goal.returns-then-tight
returns-then-tight c = search tick-small

pub returns-then-is_given_up : goal.returns-then-is_given_up
returns-then-is_given_up c = search tick-up

pub returns-then-is_idle : goal.returns-then-is_idle
returns-then-is_idle c = search tick-idle

pub returns : goal.returns
returns c = search tick_passed
