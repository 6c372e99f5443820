use Rattle.capture_frame.proofs.Ways.{by-protocol-ah, by-protocol-esp, by-protocol-udp, by-protocol-other}
use Rattle.capture_frame.proofs.by_protocol.Goals as goal

pub returns-then-protocol-eq51 : goal.returns-then-protocol-eq51
returns-then-protocol-eq51 c = search by-protocol-ah

pub returns-then-protocol-eq50 : goal.returns-then-protocol-eq50
returns-then-protocol-eq50 c = search by-protocol-esp

pub returns-then-protocol-eq17 : goal.returns-then-protocol-eq17
returns-then-protocol-eq17 c = search by-protocol-udp

pub returns : goal.returns
returns c = search by-protocol-other
