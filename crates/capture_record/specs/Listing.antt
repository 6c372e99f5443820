-- What is listed of a record of a capture, document 02, "One": what it carries is handed to the existing readers, and AH and ESP to the table.
-- The answer and the table after it.
use Rattle.std.specs.Prelude.{ℕ, List, [], ◌∷◌, Bool, true, false, ◌&&◌, length, ltb, leb, eqb}
use Rattle.wire_read.specs.Wire.{Bytes}
use Rattle.wire_read.specs.Tests.{if◌then◌otherwise◌}
use Rattle.wire_read.specs.Answer.{Answer, done}
use Rattle.port4500.specs.Port.{Datagram}
use Rattle.port4500.specs.Port as Datagrams
use Rattle.port4500.specs.Port.{datagram, handed_on}
use Rattle.message_header.specs.Header.{exchange_of, flags_of, message_id_of}
use Rattle.message_chain.specs.Message.{Message}
use Rattle.message_chain.specs.Message as Messages
use Rattle.message_chain.specs.Message.{message}
use Rattle.sequence_record.specs.Verdict.{Verdict}
use Rattle.sequence_record.specs.Verdict as Verdicts
use Rattle.sequence_record.specs.Receive.{verdict_answer}
use Rattle.sequence_packet.specs.Packets.{ah_spi, ah_number, esp_spi, esp_number}
use Rattle.sequence_table.specs.declared.table.Key.{Key}
use Rattle.sequence_table.specs.Outcome.{Outcome}
use Rattle.sequence_table.specs.Outcome as Outcomes
use Rattle.sequence_table.specs.Table.{Table, added, packet}
use Rattle.capture_frame.specs.declared.Addresses.{Addresses}
use Rattle.capture_frame.specs.declared.Frame.{Frame}
use Rattle.capture_frame.specs.declared.Frame.TheVariants as Frames
use Rattle.capture_frame.specs.Frame.{carried, bytes_of_part, address_values}
use Rattle.capture_record.specs.Listed.{Listed, CutShort, NotIpv4, Fragment, OtherProtocol, OtherPorts, Keepalive, Enciphered, Read, Refused, ShortPacket, Packet}

-- ---- to the table

-- "Protocols 51 and 50 are 2 and 3"
abbrev pub ah_protocol : ℕ
ah_protocol = 2

abbrev pub esp_protocol : ℕ
esp_protocol = 3

-- the least bytes that have an SPI and a number, and these where they stand
abbrev pub least_bytes : (protocol : ℕ) → ℕ
least_bytes protocol = if eqb protocol ah_protocol then 12 otherwise 8

abbrev pub spi_of : (protocol : ℕ) (s : Bytes) → ℕ
spi_of protocol s = if eqb protocol ah_protocol then ah_spi s otherwise esp_spi s

abbrev pub number_of : (protocol : ℕ) (s : Bytes) → ℕ
number_of protocol s = if eqb protocol ah_protocol then ah_number s otherwise esp_number s

abbrev pub key_of : (destination protocol : ℕ) (s : Bytes) → Key
key_of destination protocol s = record { destination = destination; protocol = protocol; spi = spi_of protocol s }

-- "the key is added first, also if its number is then refused; if adding is refused, that number is the verdict"
unfoldable pub added_first : (adding : Outcome × Table) (destination protocol : ℕ) (s : Bytes) → Verdict × Table
added_first (Outcomes.Refused number, t) destination protocol s = (Verdicts.Refused number, t)
added_first (Outcomes.Done, t) destination protocol s = packet t destination protocol true s

-- "Where 11 would stand (the packet reads, and its key has no entry)"
abbrev pub is_eleven : (verdict : Verdict) → Bool
is_eleven (Verdicts.Refused number) = eqb number 11
is_eleven (Verdicts.Accepted rise) = false

-- "To the table, with the IP destination, integrity taken as yes"
unfoldable pub shown : (t : Table) (destination protocol : ℕ) (s : Bytes) → Verdict × Table
shown t destination protocol s =
    if is_eleven (packet t destination protocol true s).0 then added_first (added t (key_of destination protocol s)) destination protocol s
    otherwise packet t destination protocol true s

-- "`AH refused 16` only where the packet has fewer than 12 bytes (ESP: 8); any other 16 shows SPI and number"
unfoldable pub listed_packet : (addresses : Addresses) (protocol : ℕ) (s : Bytes) (verdict : Verdict) → Listed
listed_packet addresses protocol s verdict =
    if ltb (length s) (least_bytes protocol) then ShortPacket addresses protocol verdict
    otherwise Packet addresses protocol (spi_of protocol s) (number_of protocol s) verdict

unfoldable pub packet_listed : (t : Table) (addresses : Addresses) (protocol : ℕ) (s : Bytes) → Listed × Table
packet_listed t addresses protocol s = (listed_packet addresses protocol s judged.0, judged.1)
  where
    judged : Verdict × Table
    judged = shown t addresses.destination protocol s

-- ---- to the readers

unfoldable pub read_listed : (addresses : Addresses) (read : Message) → Listed
read_listed addresses (Messages.Refused number) = Refused addresses number
read_listed addresses (Messages.Read exchange count) = Read addresses exchange count

-- "A key exchange message of at least 28 bytes whose flags byte is 1 is listed as enciphered, with its exchange and message ID, before any
-- other check; any other (flags 3, say) goes to the message reader"
unfoldable pub message_listed : (addresses : Addresses) (m : Bytes) → Listed
message_listed addresses m =
    if leb 28 (length m) && eqb (flags_of m) 1 then Enciphered addresses (exchange_of m) (message_id_of m)
    otherwise read_listed addresses (message m)

-- "From port 4500: keepalive, a key exchange (as above), or ESP"
unfoldable pub datagram_listed : (t : Table) (addresses : Addresses) (s : Bytes) (d : Datagram) → Listed × Table
datagram_listed t addresses s Datagrams.Keepalive = (Keepalive addresses, t)
datagram_listed t addresses s (Datagrams.KeyExchange start n) = (message_listed addresses (handed_on (Datagrams.KeyExchange start n) s), t)
datagram_listed t addresses s (Datagrams.Esp n) = packet_listed t addresses esp_protocol (handed_on (Datagrams.Esp n) s)
datagram_listed t addresses s (Datagrams.Refused number) = (Refused addresses number, t)

-- ---- a record

unfoldable pub frame_listed : (t : Table) (s : Bytes) (frame : Frame) → Listed × Table
frame_listed t s Frames.CutShort = (CutShort, t)
frame_listed t s Frames.NotIpv4 = (NotIpv4, t)
frame_listed t s (Frames.Fragment addresses) = (Fragment addresses, t)
frame_listed t s (Frames.OtherProtocol addresses protocol) = (OtherProtocol addresses protocol, t)
frame_listed t s (Frames.OtherPorts addresses ports) = (OtherPorts addresses ports, t)
frame_listed t s (Frames.Message addresses part) = (message_listed addresses (bytes_of_part s part), t)
frame_listed t s (Frames.Datagram addresses part) = datagram_listed t addresses (bytes_of_part s part) (datagram (bytes_of_part s part))
frame_listed t s (Frames.Ah addresses part) = packet_listed t addresses ah_protocol (bytes_of_part s part)
frame_listed t s (Frames.Esp addresses part) = packet_listed t addresses esp_protocol (bytes_of_part s part)

-- what is listed of a record, and the table after it
unfoldable pub listed : (t : Table) (original : ℕ) (s : Bytes) → Listed × Table
listed t original s = frame_listed t s (carried original s)

-- an AH or ESP packet: what goes to the table
unfoldable pub is_packet : (listed : Listed) → Bool
is_packet CutShort = false
is_packet NotIpv4 = false
is_packet (Fragment addresses) = false
is_packet (OtherProtocol addresses protocol) = false
is_packet (OtherPorts addresses ports) = false
is_packet (Keepalive addresses) = false
is_packet (Enciphered addresses exchange id) = false
is_packet (Read addresses exchange count) = false
is_packet (Refused addresses number) = false
is_packet (ShortPacket addresses protocol verdict) = true
is_packet (Packet addresses protocol spi number verdict) = true

-- ---- what is handed on

-- the bytes that a reader or the table is given: a message, a datagram's rest, a packet; nothing of any other record
unfoldable pub handed_in : (s : Bytes) (frame : Frame) → Bytes
handed_in s Frames.CutShort = []
handed_in s Frames.NotIpv4 = []
handed_in s (Frames.Fragment addresses) = []
handed_in s (Frames.OtherProtocol addresses protocol) = []
handed_in s (Frames.OtherPorts addresses ports) = []
handed_in s (Frames.Message addresses part) = bytes_of_part s part
handed_in s (Frames.Datagram addresses part) = handed_on (datagram (bytes_of_part s part)) (bytes_of_part s part)
handed_in s (Frames.Ah addresses part) = bytes_of_part s part
handed_in s (Frames.Esp addresses part) = bytes_of_part s part

-- ---- the paper's number and values for each case

abbrev pub verdict_values : (verdict : Verdict) → List ℕ
verdict_values verdict = (verdict_answer verdict).number ∷ (verdict_answer verdict).values

-- "A listed verdict is an answer and no refusal of the call"
unfoldable pub listed_answer : (listed : Listed) → Answer
listed_answer CutShort = done (1 ∷ [])
listed_answer NotIpv4 = done (2 ∷ [])
listed_answer (Fragment addresses) = done (3 ∷ address_values addresses [])
listed_answer (OtherProtocol addresses protocol) = done (4 ∷ address_values addresses (protocol ∷ []))
listed_answer (OtherPorts addresses ports) = done (5 ∷ address_values addresses (ports.source ∷ ports.destination ∷ []))
listed_answer (Keepalive addresses) = done (6 ∷ address_values addresses [])
listed_answer (Enciphered addresses exchange id) = done (7 ∷ address_values addresses (exchange ∷ id ∷ []))
listed_answer (Read addresses exchange count) = done (8 ∷ address_values addresses (exchange ∷ count ∷ []))
listed_answer (Refused addresses number) = done (9 ∷ address_values addresses (number ∷ []))
listed_answer (ShortPacket addresses protocol verdict) = done (10 ∷ address_values addresses (protocol ∷ verdict_values verdict))
listed_answer (Packet addresses protocol spi number verdict) = done (11 ∷ address_values addresses (protocol ∷ spi ∷ number ∷ verdict_values verdict))
