use Rattle.std.proofs.Common.{ap}
use Rattle.capture_words.specs.Texts.{message_refused_text, what_text}
use Rattle.capture_words.proofs.Ways.{what-said}
use Rattle.capture_words.proofs.what.Goals as goal

pub returns-in-CutShort : goal.returns-in-CutShort
unfolding what_text
returns-in-CutShort g c = search what-said

pub returns-in-NotIpv4 : goal.returns-in-NotIpv4
unfolding what_text
returns-in-NotIpv4 g c = search what-said

pub returns-in-Fragment : goal.returns-in-Fragment
unfolding what_text
returns-in-Fragment g c = search what-said

pub returns-in-OtherProtocol : goal.returns-in-OtherProtocol
unfolding what_text
returns-in-OtherProtocol g c = search what-said

pub returns-in-OtherPorts : goal.returns-in-OtherPorts
unfolding what_text
returns-in-OtherPorts g c = search what-said

pub returns-in-Keepalive : goal.returns-in-Keepalive
unfolding what_text
returns-in-Keepalive g c = search what-said

pub returns-in-Enciphered : goal.returns-in-Enciphered
unfolding what_text
returns-in-Enciphered g c = search what-said

pub returns-in-Read : goal.returns-in-Read
unfolding what_text
returns-in-Read g c = search what-said

pub returns-in-Refused : goal.returns-in-Refused
unfolding what_text
returns-in-Refused g c = let same = ap (message_refused_text c.in-Refused.addresses) c.numbered.ensures in search what-said

pub returns-in-ShortPacket : goal.returns-in-ShortPacket
unfolding what_text
returns-in-ShortPacket g c = search what-said

pub returns-in-Packet : goal.returns-in-Packet
unfolding what_text
returns-in-Packet g c = search what-said
