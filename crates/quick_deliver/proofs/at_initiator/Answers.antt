use Rattle.quick_deliver.proofs.Ways.{initiator_again, initiator-sent, initiator_open, initiator-other}
use Rattle.quick_deliver.proofs.at_initiator.Goals as goal

pub returns-then-alike : goal.returns-then-alike
returns-then-alike c = search initiator_again

pub returns-in-Sent : goal.returns-in-Sent
returns-in-Sent c = search initiator-sent

pub returns-else-alike : goal.returns-else-alike
returns-else-alike c = search initiator_open

pub returns-in-Idle : goal.returns-in-Idle
returns-in-Idle c = initiator-other _ _ _ _ _ _ _ c.refuse-in-Idle.ensures c.in-Idle.is
