-- The body of an SA payload, document 01, "SA payload": DOI (4 bytes), situation (4), then proposals. A proposal: next (1 byte),
-- reserved (1), length (2), number (1), protocol (1), SPI size (1), count of transforms (1), SPI, transforms.
use Rattle.std.specs.Prelude.{ℕ, zero, suc, ◌+◌, Bool, false, not, ◌||◌, ◌&&◌, length, take, drop, ltb, leb, eqb}
use Rattle.wire_read.specs.Wire.{Bytes, Code, number_at, next_field, reserved_field, length_field}
use Rattle.wire_read.specs.Tests.{if◌then◌otherwise◌, ◌and_then◌}
use Rattle.sa_fields.specs.Fields.{number_field, protocol_field, spi_size_field, count_field, spi_field}
use Rattle.sa_transforms.specs.Transforms.{transforms_code}
use Rattle.sa_proposals.specs.declared.Protocols.{Protocols}

abbrev pub doi_field : (body : Bytes) → ℕ
doi_field body = number_at 4 body 0

abbrev pub situation_field : (body : Bytes) → ℕ
situation_field body = number_at 4 body 4

-- "under 8 bytes left, next not 0 or 2, reserved nonzero, length below 8 plus SPI size or past the SA's end"
unfoldable pub proposal_wrong : (s : Bytes) → Bool
proposal_wrong s =
    ltb (length s) 8 || not (eqb (next_field s) 0 || eqb (next_field s) 2) || not (eqb (reserved_field s) 0)
    || ltb (length_field s) (8 + spi_size_field s) || ltb (length s) (length_field s)

-- the protocols of the set so far
unfoldable pub has : (set : Protocols) (protocol : ℕ) → Bool
has set protocol = set.isakmp && eqb protocol 1 || set.ah && eqb protocol 2 || set.esp && eqb protocol 3

unfoldable pub with : (set : Protocols) (protocol : ℕ) → Protocols
with set protocol = record { isakmp = set.isakmp || eqb protocol 1; ah = set.ah || eqb protocol 2; esp = set.esp || eqb protocol 3 }

unfoldable pub none : Protocols
none = record { isakmp = false; ah = false; esp = false }

-- "Proposals with equal number form one set": what the set of a proposal with this number has before it
unfoldable pub set_before : (previous : ℕ) (set : Protocols) (number : ℕ) → Protocols
set_before previous set number = if eqb number previous then set otherwise none

-- "a number below the one before, or a protocol already in its set"
unfoldable pub order_wrong : (previous : ℕ) (set : Protocols) (s : Bytes) → Bool
order_wrong previous set s = ltb (number_field s) previous || has (set_before previous set (number_field s)) (protocol_field s)

-- "Protocol must be 1 with exchange 2, and 2 or 3 with exchange 32: 10"
unfoldable pub protocol_wrong : (exchange protocol : ℕ) → Bool
protocol_wrong exchange protocol = not (eqb exchange 2 && eqb protocol 1 || eqb exchange 32 && (eqb protocol 2 || eqb protocol 3))

-- "SPI size 0 and 4 respectively, SPI at least 256: 11"
unfoldable pub spi_wrong : (exchange : ℕ) (s : Bytes) → Bool
spi_wrong exchange s = not (eqb exchange 2 && eqb (spi_size_field s) 0 || eqb exchange 32 && eqb (spi_size_field s) 4 && leb 256 (spi_field s))

-- "the announced count, 1 to 8"
unfoldable pub count_wrong : (s : Bytes) → Bool
count_wrong s = not (leb 1 (count_field s) && leb (count_field s) 8)

-- the transforms of the proposal at the front of s, as bytes
unfoldable pub transform_bytes : (s : Bytes) → Bytes
transform_bytes s = drop (8 + spi_size_field s) (take (length_field s) s)

-- what stands in the proposal's own transforms, and "Then next 2 with exchange 2: 15"
unfoldable pub inner_code : (exchange : ℕ) (s : Bytes) → Code
inner_code exchange s =
    transforms_code (count_field s) exchange 0 (transform_bytes s)
    and_then if eqb exchange 2 && eqb (next_field s) 2 then 15
    otherwise 0

-- one proposal, its checks in the document's order
unfoldable pub proposal_code : (exchange previous : ℕ) (set : Protocols) (s : Bytes) → Code
proposal_code exchange previous set s =
    if proposal_wrong s then 15
    otherwise if order_wrong previous set s then 15
    otherwise if protocol_wrong exchange (protocol_field s) then 10
    otherwise if spi_wrong exchange s then 11
    otherwise if count_wrong s then 15
    otherwise inner_code exchange s

-- one proposal after the other, "a 17th .. : 15"; "After a proposal with next 0 nothing may remain: 15"
unfoldable pub proposals_code : (left exchange previous : ℕ) (set : Protocols) (s : Bytes) → Code
proposals_code zero exchange previous set s = 15
proposals_code (suc left) exchange previous set s =
    proposal_code exchange previous set s
    and_then if eqb (next_field s) 0 then (if eqb (length (drop (length_field s) s)) 0 then 0 otherwise 15)
    otherwise proposals_code left exchange (number_field s) (with (set_before previous set (number_field s)) (protocol_field s)) (drop (length_field s) s)

-- "Under 8 body bytes: 15; DOI; situation. Then proposals."
unfoldable pub offer_code : (exchange : ℕ) (s : Bytes) → Code
offer_code exchange s =
    if ltb (length s) 8 then 15
    otherwise if not (eqb (doi_field s) 1) then 2
    otherwise if not (eqb (situation_field s) 1) then 3
    otherwise proposals_code 16 exchange 0 none (drop 8 s)
