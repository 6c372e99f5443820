use Rattle.capture_record.proofs.Ways.{record_cut, record_not-ipv4, record_fragment, record_protocol, record_ports, record_message, record_datagram, record_ah, record_esp}
use Rattle.capture_record.proofs.list_record.Goals as goal

pub returns-in-CutShort : goal.returns-in-CutShort
returns-in-CutShort c = search record_cut

pub returns-in-NotIpv4 : goal.returns-in-NotIpv4
returns-in-NotIpv4 c = search record_not-ipv4

pub returns-in-Fragment : goal.returns-in-Fragment
returns-in-Fragment c = search record_fragment

pub returns-in-OtherProtocol : goal.returns-in-OtherProtocol
returns-in-OtherProtocol c = search record_protocol

pub returns-in-OtherPorts : goal.returns-in-OtherPorts
returns-in-OtherPorts c = search record_ports

pub returns-in-Message : goal.returns-in-Message
returns-in-Message c = search record_message

pub returns-in-Datagram : goal.returns-in-Datagram
returns-in-Datagram c = search record_datagram

pub returns-in-Ah : goal.returns-in-Ah
returns-in-Ah c = search record_ah

pub returns-in-Esp : goal.returns-in-Esp
returns-in-Esp c = search record_esp
