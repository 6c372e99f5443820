-- The header of a message, document 01, "Header and chain, in order of checks": cookies (8 and 8 bytes), first payload (1), version (1),
-- exchange (1), flags (1), message ID (4), length (4).
use Rattle.std.specs.Prelude.{ℕ, ◌/◌, ◌%◌, Bool, not, ◌||◌, ◌&&◌, length, get_or, take, drop, ltb, eqb}
use Rattle.wire_read.specs.Wire.{Bytes, Code, number_at, all_zero}
use Rattle.wire_read.specs.Tests.{if◌then◌otherwise◌}

abbrev pub exchange_of : (m : Bytes) → ℕ
exchange_of m = get_or m 18 0

abbrev pub flags_of : (m : Bytes) → ℕ
flags_of m = get_or m 19 0

abbrev pub first_payload : (m : Bytes) → ℕ
first_payload m = get_or m 16 0

abbrev pub version_of : (m : Bytes) → ℕ
version_of m = get_or m 17 0

abbrev pub message_id_of : (m : Bytes) → ℕ
message_id_of m = number_at 4 m 20

abbrev pub header_length : (m : Bytes) → ℕ
header_length m = number_at 4 m 24

-- a cookie as the number that its bytes spell
abbrev pub icookie_of : (m : Bytes) → ℕ
icookie_of m = number_at 8 m 0

abbrev pub rcookie_of : (m : Bytes) → ℕ
rcookie_of m = number_at 8 m 8

-- "Length under 28, over 8,192, or unlike the header's"
unfoldable pub length_wrong : (m : Bytes) → Bool
length_wrong m = ltb (length m) 28 || ltb 8192 (length m) || not (eqb (header_length m) (length m))

-- "Major (high half of byte 17), minor"
unfoldable pub major_wrong : (m : Bytes) → Bool
major_wrong m = not (eqb (version_of m / 16) 1)

unfoldable pub minor_wrong : (m : Bytes) → Bool
minor_wrong m = not (eqb (version_of m % 16) 1)

-- "Exchange 1 or 3"
unfoldable pub exchange_refused : (m : Bytes) → Bool
exchange_refused m = eqb (exchange_of m) 1 || eqb (exchange_of m) 3

-- "not 2, 5 or 32"
unfoldable pub exchange_unknown : (m : Bytes) → Bool
exchange_unknown m = not (eqb (exchange_of m) 2 || eqb (exchange_of m) 5 || eqb (exchange_of m) 32)

-- "Flags other than 0 or 1"
unfoldable pub flags_wrong : (m : Bytes) → Bool
flags_wrong m = ltb 1 (flags_of m)

-- "Initiator cookie zero, or responder cookie zero with exchange 32"
unfoldable pub cookie_zero : (m : Bytes) → Bool
cookie_zero m = all_zero (take 8 m) || eqb (exchange_of m) 32 && all_zero (take 8 (drop 8 m))

-- "Message ID nonzero with 2, or zero with 32"
unfoldable pub message_id_wrong : (m : Bytes) → Bool
message_id_wrong m = eqb (exchange_of m) 2 && not (eqb (message_id_of m) 0) || eqb (exchange_of m) 32 && eqb (message_id_of m) 0

-- "Flag 1 and length minus 28 no multiple of 16"
unfoldable pub flagged_length_wrong : (m : Bytes) → Bool
flagged_length_wrong m = eqb (flags_of m) 1 && not (eqb (length (drop 28 m) % 16) 0)

-- "No first payload"
unfoldable pub no_payload : (m : Bytes) → Bool
no_payload m = eqb (first_payload m) 0

-- the checks in this order: 0, or the refusal; 5 and 6 are the table's "major, minor version not 1"
unfoldable pub header_code : (m : Bytes) → Code
header_code m =
    if length_wrong m then 30
    otherwise if major_wrong m then 5
    otherwise if minor_wrong m then 6
    otherwise if exchange_refused m then 29
    otherwise if exchange_unknown m then 7
    otherwise if flags_wrong m then 8
    otherwise if cookie_zero m then 4
    otherwise if message_id_wrong m then 9
    otherwise if flagged_length_wrong m then 30
    otherwise if no_payload m then 16
    otherwise 0
