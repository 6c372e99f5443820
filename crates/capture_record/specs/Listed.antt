-- What is listed of a record as the definitions have it, and what the code's answer tells of it.
use Rattle.std.specs.Prelude.{ℕ}
use Rattle.refusal.specs.Numbers.{number}
use Rattle.refusal.specs.declared.Refusal.{Refusal}
use Rattle.sequence_record.specs.Verdict.{Verdict, verdict_by}
use Rattle.capture_frame.specs.declared.Addresses.{Addresses}
use Rattle.capture_frame.specs.declared.Ports.{Ports}
use Rattle.capture_record.specs.declared.Listed.{Listed as CodeListed}
use Rattle.capture_record.specs.declared.Listed.TheVariants as Code

pub data Listed : Type 0 where
  CutShort : Listed
  NotIpv4 : Listed
  Fragment : (addresses : Addresses) → Listed
  OtherProtocol : (addresses : Addresses) (protocol : ℕ) → Listed
  OtherPorts : (addresses : Addresses) (ports : Ports) → Listed
  Keepalive : (addresses : Addresses) → Listed
  Enciphered : (addresses : Addresses) (exchange id : ℕ) → Listed
  -- a message that reads: its exchange, and how many payloads it has
  Read : (addresses : Addresses) (exchange count : ℕ) → Listed
  -- a message, or a datagram of port 4500, that does not
  Refused : (addresses : Addresses) (number : ℕ) → Listed
  -- an AH or ESP packet too short for an SPI and a number
  ShortPacket : (addresses : Addresses) (protocol : ℕ) (verdict : Verdict) → Listed
  Packet : (addresses : Addresses) (protocol spi number : ℕ) (verdict : Verdict) → Listed

abbrev pub listed_by : {R : Type 0} (numbered : R → ℕ) (listed : CodeListed R) → Listed
listed_by numbered Code.CutShort = CutShort
listed_by numbered Code.NotIpv4 = NotIpv4
listed_by numbered (Code.Fragment addresses) = Fragment addresses
listed_by numbered (Code.OtherProtocol addresses protocol) = OtherProtocol addresses protocol
listed_by numbered (Code.OtherPorts addresses ports) = OtherPorts addresses ports
listed_by numbered (Code.Keepalive addresses) = Keepalive addresses
listed_by numbered (Code.Enciphered addresses exchange id) = Enciphered addresses exchange id
listed_by numbered (Code.Read addresses exchange count) = Read addresses exchange count
listed_by numbered (Code.Refused addresses refused) = Refused addresses (numbered refused)
listed_by numbered (Code.ShortPacket addresses protocol verdict) = ShortPacket addresses protocol (verdict_by numbered verdict)
listed_by numbered (Code.Packet addresses protocol spi number verdict) = Packet addresses protocol spi number (verdict_by numbered verdict)

abbrev pub listed_told : (listed : CodeListed Refusal) → Listed
listed_told listed = listed_by number listed
