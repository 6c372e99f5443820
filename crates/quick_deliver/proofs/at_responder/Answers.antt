use Rattle.quick_deliver.proofs.Ways.{responder-nothing, responder-idle, responder_half, responder_open, responder-other}
use Rattle.quick_deliver.proofs.at_responder.Goals as goal

pub returns-then-alike-found : goal.returns-then-alike-found
returns-then-alike-found c = search responder-nothing

pub returns-in-Idle : goal.returns-in-Idle
returns-in-Idle c = search responder-idle

pub returns-in-Half : goal.returns-in-Half
returns-in-Half c = search responder_half

pub returns-else-alike-found : goal.returns-else-alike-found
returns-else-alike-found c = search responder_open

pub returns-in-Sent : goal.returns-in-Sent
returns-in-Sent c = responder-other _ _ _ _ _ _ _ c.refuse-in-Sent.ensures c.in-Sent.is
