-- The fields of a proposal, and of a transform, by their places. Both begin with next, reserved and length; then a proposal has its number
-- (1 byte), protocol (1), SPI size (1), count of transforms (1), SPI, transforms; a transform its number (1), ID (1), reserved (2), attributes.
use Rattle.std.specs.Prelude.{ℕ, ◌+◌, get_or, take, drop}
use Rattle.wire_read.specs.Wire.{Bytes, number_at}
use Rattle.sa_fields.specs.declared.ProposalNumber.{ProposalNumber}
use Rattle.sa_fields.specs.declared.TransformNumber.{TransformNumber}

-- of both
abbrev pub number_field : (s : Bytes) → ℕ
number_field s = get_or s 4 0

abbrev pub number_field_at : (s : Bytes) (at : ℕ) → ℕ
number_field_at s at = get_or s (at + 4) 0

-- of a proposal; an SPI of four bytes as the number that it spells
abbrev pub protocol_field : (p : Bytes) → ℕ
protocol_field p = get_or p 5 0

abbrev pub spi_size_field : (p : Bytes) → ℕ
spi_size_field p = get_or p 6 0

abbrev pub count_field : (p : Bytes) → ℕ
count_field p = get_or p 7 0

abbrev pub spi_field : (p : Bytes) → ℕ
spi_field p = number_at 4 p 8

-- of a transform
abbrev pub id_field : (t : Bytes) → ℕ
id_field t = get_or t 5 0

abbrev pub second_reserved_field : (t : Bytes) → ℕ
second_reserved_field t = number_at 2 t 6

-- a proposal's number, protocol, SPI and count of transforms
unfoldable pub proposal_number : (p : Bytes) → ProposalNumber
proposal_number p = record { 0 = number_field p }

unfoldable pub protocol : (p : Bytes) → ℕ
protocol p = protocol_field p

unfoldable pub spi : (p : Bytes) → Bytes
spi p = take (spi_size_field p) (drop 8 p)

unfoldable pub transform_count : (p : Bytes) → ℕ
transform_count p = count_field p

-- a transform's number, ID and attributes
unfoldable pub transform_number : (t : Bytes) → TransformNumber
transform_number t = record { 0 = number_field t }

unfoldable pub transform_id : (t : Bytes) → ℕ
transform_id t = id_field t

unfoldable pub attributes_of : (t : Bytes) → Bytes
attributes_of t = drop 8 t
