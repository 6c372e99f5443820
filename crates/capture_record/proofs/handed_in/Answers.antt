use Rattle.capture_record.proofs.Ways.{message-handed, datagram-handed, ah-handed, esp-handed, cut_handed, not-ipv4-handed, fragment_handed, protocol-handed, ports_handed}
use Rattle.capture_record.proofs.handed_in.Goals as goal

pub returns-in-Message : goal.returns-in-Message
returns-in-Message c = search message-handed

pub returns-in-Datagram : goal.returns-in-Datagram
returns-in-Datagram c = search datagram-handed

pub returns-in-Ah : goal.returns-in-Ah
returns-in-Ah c = search ah-handed

pub returns-in-Esp : goal.returns-in-Esp
returns-in-Esp c = search esp-handed

pub returns-in-CutShort : goal.returns-in-CutShort
returns-in-CutShort c = search cut_handed

pub returns-in-NotIpv4 : goal.returns-in-NotIpv4
returns-in-NotIpv4 c = search not-ipv4-handed

pub returns-in-Fragment : goal.returns-in-Fragment
returns-in-Fragment c = search fragment_handed

pub returns-in-OtherProtocol : goal.returns-in-OtherProtocol
returns-in-OtherProtocol c = search protocol-handed

pub returns-in-OtherPorts : goal.returns-in-OtherPorts
returns-in-OtherPorts c = search ports_handed
