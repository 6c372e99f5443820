-- The attributes of a transform, document 01, "SA payload". s begins at an attribute: type (2 bytes), then a value or a length and a value.
use Rattle.std.specs.Prelude.{ℕ, zero, suc, min, ◌+◌, ◌%◌, [], Bool, length, get_or, take, drop, ltb, leb, eqb}
use Rattle.wire_read.specs.Wire.{Bytes, number_at}
use Rattle.wire_read.specs.Tests.{if◌then◌otherwise◌}
use Rattle.wire_read.specs.Parts.{parts}

-- the type's first byte, and what stands behind the type
abbrev pub type_high_byte : (s : Bytes) → ℕ
type_high_byte s = get_or s 0 0

abbrev pub value_or_length : (s : Bytes) → ℕ
value_or_length s = number_at 2 s 2

-- "high bit of the type set means a two-byte value"
unfoldable pub sent_fixed : (s : Bytes) → Bool
sent_fixed s = leb 0x80 (type_high_byte s)

-- the type is what the other 15 bits spell
unfoldable pub attribute_type : (s : Bytes) → ℕ
attribute_type s = number_at 2 s 0 % 0x8000

-- "else a two-byte length and the value"
unfoldable pub attribute_size : (s : Bytes) → ℕ
attribute_size s = if sent_fixed s then 4 otherwise 4 + value_or_length s

-- what follows the attribute
unfoldable pub after_attribute : (s : Bytes) → Bytes
after_attribute s = drop (attribute_size s) s

-- the attribute of this type among the first k of s, no bytes where there is none
unfoldable pub find : (k attributetype : ℕ) (s : Bytes) → Bytes
find zero attributetype s = []
find (suc k) attributetype s =
    if ltb (length s) 4 then []
    otherwise if eqb (attribute_type s) attributetype then take (attribute_size s) s
    otherwise find k attributetype (after_attribute s)

-- the attribute of this type in a transform's attributes
unfoldable pub attribute : (attributetype : ℕ) (s : Bytes) → Bytes
attribute attributetype s = find 16 attributetype s

-- the number that an attribute's value spells; of a value over 4 bytes, which no rule asks for, the first 4
unfoldable pub value : (a : Bytes) → ℕ
value a = if sent_fixed a then value_or_length a otherwise number_at (min (value_or_length a) 4) a 4

-- how many attributes a transform has; lawful ones are at most 16
unfoldable pub attribute_count : (s : Bytes) → ℕ
attribute_count s = parts after_attribute 16 s
