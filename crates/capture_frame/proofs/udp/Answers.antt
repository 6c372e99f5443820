use Rattle.capture_frame.proofs.Ways.{udp-short, udp-header, udp_ports}
use Rattle.capture_frame.proofs.udp.Goals as goal

pub returns-then-packet-size : goal.returns-then-packet-size
returns-then-packet-size c = search udp-short

pub overflow_sub-size : goal.overflow_sub-size
overflow_sub-size c = search udp-header

pub returns : goal.returns
returns c = search udp_ports
