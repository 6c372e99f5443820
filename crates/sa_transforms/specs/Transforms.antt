-- The transforms of a proposal, document 01, "SA payload". s begins at a transform: next (1 byte), reserved (1), length (2), number (1),
-- ID (1), reserved (2), attributes.
use Rattle.std.specs.Prelude.{ℕ, zero, suc, ◌+◌, Bool, not, ◌||◌, length, take, drop, ltb, eqb}
use Rattle.wire_read.specs.Wire.{Bytes, Code, next_field, reserved_field, length_field}
use Rattle.wire_read.specs.Tests.{if◌then◌otherwise◌, ◌and_then◌}
use Rattle.sa_fields.specs.Fields.{number_field, second_reserved_field}
use Rattle.sa_coding.specs.Coding.{attributes_code}

-- "next 0 on the last, else 3": left transforms follow this one
unfoldable pub next_wanted : (left : ℕ) → ℕ
next_wanted left = if eqb left 0 then 0 otherwise 3

-- "8 bytes at least, next 0 on the last, else 3, both reserved fields zero, length in bounds"
unfoldable pub transform_wrong : (left : ℕ) (s : Bytes) → Bool
transform_wrong left s =
    ltb (length s) 8 || not (eqb (next_field s) (next_wanted left)) || not (eqb (reserved_field s) 0) || not (eqb (second_reserved_field s) 0)
    || ltb (length_field s) 8 || ltb (length s) (length_field s)

-- "numbers strictly rising: 15": least is the lowest number that may come
unfoldable pub transform_code : (exchange left least : ℕ) (s : Bytes) → Code
transform_code exchange left least s =
    if transform_wrong left s then 15
    otherwise if ltb (number_field s) least then 15
    otherwise attributes_code exchange (drop 8 (take (length_field s) s))

-- "so many transforms, nothing left over: 15"
unfoldable pub transforms_code : (left exchange least : ℕ) (s : Bytes) → Code
transforms_code zero exchange least s = if eqb (length s) 0 then 0 otherwise 15
transforms_code (suc left) exchange least s =
    transform_code exchange left least s
    and_then transforms_code left exchange (number_field s + 1) (drop (length_field s) s)
