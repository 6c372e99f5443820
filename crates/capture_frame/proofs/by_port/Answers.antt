use Rattle.capture_frame.proofs.Ways.{by-port-message, by-port-datagram, by-port-other}
use Rattle.capture_frame.proofs.by_port.Goals as goal

pub returns-then-port-eq500 : goal.returns-then-port-eq500
returns-then-port-eq500 c = search by-port-message

pub returns-then-port-eq4500 : goal.returns-then-port-eq4500
returns-then-port-eq4500 c = search by-port-datagram

pub returns : goal.returns
returns c = search by-port-other
