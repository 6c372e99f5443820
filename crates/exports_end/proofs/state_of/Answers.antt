use Rattle.exports_end.proofs.Ways.{state_idle, state_sent, state_half, state_open, state_given-up}
use Rattle.exports_end.proofs.state_of.Goals as goal

pub returns-in-0 : goal.returns-in-0
returns-in-0 c = search state_idle

pub returns-in-1 : goal.returns-in-1
returns-in-1 c = search state_sent

pub returns-in-2 : goal.returns-in-2
returns-in-2 c = search state_half

pub returns-in-3 : goal.returns-in-3
returns-in-3 c = search state_open

pub returns-in_default : goal.returns-in_default
returns-in_default c = search state_given-up
