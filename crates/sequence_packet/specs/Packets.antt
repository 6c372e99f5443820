-- Packets, document 01, "Sequence numbers": the SPI and the sequence number in an AH or ESP packet.
use Rattle.std.specs.Prelude.{ℕ, ◌+◌, ◌*◌, [], ◌∷◌, Bool, not, ◌||◌, ◌&&◌, length, get_or, leb, eqb}
use Rattle.wire_read.specs.Wire.{Bytes, number_at}
use Rattle.wire_read.specs.Tests.{if◌then◌otherwise◌}
use Rattle.wire_read.specs.Answer.{Answer, done, refused}
use Rattle.sequence_packet.specs.Packet.{Packet, Read, Refused}

-- ---- the fields

-- AH: next header (1), length (1), reserved (2), SPI (4), number (4), integrity value
abbrev pub ah_length_field : (s : Bytes) → ℕ
ah_length_field s = get_or s 1 0

abbrev pub ah_reserved : (s : Bytes) → ℕ
ah_reserved s = number_at 2 s 2

abbrev pub ah_spi : (s : Bytes) → ℕ
ah_spi s = number_at 4 s 4

abbrev pub ah_number : (s : Bytes) → ℕ
ah_number s = number_at 4 s 8

-- ESP: SPI (4), number (4), the rest enciphered
abbrev pub esp_spi : (s : Bytes) → ℕ
esp_spi s = number_at 4 s 0

abbrev pub esp_number : (s : Bytes) → ℕ
esp_number s = number_at 4 s 4

-- ---- the rules

-- 2 is AH, 3 is ESP
abbrev pub known : (protocol : ℕ) → Bool
known protocol = eqb protocol 2 || eqb protocol 3

-- "length field plus 2, times 4"
abbrev pub ah_size : (s : Bytes) → ℕ
ah_size s = (ah_length_field s + 2) * 4

-- "AH: 12 bytes at least, reserved zero, length field plus 2, times 4, from 12 to the packet's length; .. else 16"
unfoldable pub ah : (s : Bytes) → Packet
ah s =
    if leb 12 (length s) && eqb (ah_reserved s) 0 && leb 12 (ah_size s) && leb (ah_size s) (length s) then Read (ah_spi s) (ah_number s)
    otherwise Refused 16

-- "ESP 8 at least; else 16"
unfoldable pub esp : (s : Bytes) → Packet
esp s =
    if leb 8 (length s) then Read (esp_spi s) (esp_number s)
    otherwise Refused 16

-- "A packet's protocol not 2 or 3: 10."
unfoldable pub read : (protocol : ℕ) (s : Bytes) → Packet
read protocol s =
    if not (known protocol) then Refused 10
    otherwise if eqb protocol 2 then ah s
    otherwise esp s

-- the paper's number and values for each case
unfoldable pub packet_answer : (p : Packet) → Answer
packet_answer (Read spi number) = done (spi ∷ number ∷ [])
packet_answer (Refused number) = refused number
