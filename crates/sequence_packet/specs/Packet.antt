-- What is read of a packet as the definitions have it, and what the code's answer tells of it.
use Rattle.std.specs.Prelude.{ℕ, Result, Ok, Err}
use Rattle.refusal.specs.Numbers.{number as number_of}
use Rattle.refusal.specs.declared.Refusal.{Refusal}
use Rattle.sequence_packet.specs.declared.Packet.{Packet as CodePacket}

-- the SPI and the sequence number, or the number of the refusal
pub data Packet : Type 0 where
  Read : (spi number : ℕ) → Packet
  Refused : (number : ℕ) → Packet

abbrev pub packet_told : (answer : Result CodePacket Refusal) → Packet
packet_told (Ok p) = Read p.spi p.number
packet_told (Err refusal) = Refused (number_of refusal)
