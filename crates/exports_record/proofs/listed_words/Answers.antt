use Rattle.exports_words.specs.Given.{words}
use Rattle.capture_record.specs.Listing.{listed_answer}
use Rattle.exports_record.proofs.Ways.{listed_form}
use Rattle.exports_record.proofs.listed_words.Goals as goal

pub returns-in-CutShort : goal.returns-in-CutShort
unfolding words listed_answer
returns-in-CutShort c = search listed_form

pub returns-in-NotIpv4 : goal.returns-in-NotIpv4
unfolding words listed_answer
returns-in-NotIpv4 c = search listed_form

pub returns-in-Fragment : goal.returns-in-Fragment
unfolding words listed_answer
returns-in-Fragment c = search listed_form

pub returns-in-OtherProtocol : goal.returns-in-OtherProtocol
unfolding words listed_answer
returns-in-OtherProtocol c = search listed_form

pub returns-in-OtherPorts : goal.returns-in-OtherPorts
unfolding words listed_answer
returns-in-OtherPorts c = search listed_form

pub returns-in-Keepalive : goal.returns-in-Keepalive
unfolding words listed_answer
returns-in-Keepalive c = search listed_form

pub returns-in-Enciphered : goal.returns-in-Enciphered
unfolding words listed_answer
returns-in-Enciphered c = search listed_form

pub returns-in-Read : goal.returns-in-Read
unfolding words listed_answer
returns-in-Read c = search listed_form

pub returns-in-Refused : goal.returns-in-Refused
unfolding words listed_answer
returns-in-Refused c = let told = rw c.number.ensures at c.addressed-in-Refused.ensures in search listed_form

pub returns-in-ShortPacket : goal.returns-in-ShortPacket
unfolding words listed_answer
returns-in-ShortPacket c = search listed_form

pub returns-in-Packet : goal.returns-in-Packet
unfolding words listed_answer
returns-in-Packet c = search listed_form
