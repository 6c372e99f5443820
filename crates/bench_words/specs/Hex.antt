-- Bytes in hex: two digits of either case for each byte, or `-` for no bytes.
use Rattle.std.specs.Prelude.{ℕ, ◌+◌, ◌-◌, ◌*◌, ◌≡◌, [], ◌∷◌, ◌++◌, Bool, true, false, not, ◌&&◌, Option, Some, None, length, eqb, leb, ltb}
use Rattle.wire_read.specs.Tests.{if◌then◌otherwise◌}
use Rattle.wire_read.specs.Wire.{Bytes, equal}
use Rattle.wire_write.specs.Put.{paste}

-- the value of a digit, `0` to `9`, `a` to `f` or `A` to `F`; 16 for any other byte
unfoldable pub digit_value : (digit : ℕ) → ℕ
digit_value digit =
    if leb 48 digit && leb digit 57 then digit - 48
    otherwise if leb 97 digit && leb digit 102 then digit - 87
    otherwise if leb 65 digit && leb digit 70 then digit - 55
    otherwise 16

-- the same as the code tells it
abbrev pub digit_of : (digit : ℕ) → Option ℕ
digit_of digit = if ltb (digit_value digit) 16 then Some (digit_value digit) otherwise None

-- a whole number of pairs of digits
unfoldable pub is_hex : (word : Bytes) → Bool
is_hex [] = true
is_hex (a ∷ []) = false
is_hex (a ∷ b ∷ s) = ltb (digit_value a) 16 && ltb (digit_value b) 16 && is_hex s

-- the byte of each pair
unfoldable pub hex_bytes : (word : Bytes) → Bytes
hex_bytes [] = []
hex_bytes (a ∷ []) = []
hex_bytes (a ∷ b ∷ s) = (digit_value a * 16 + digit_value b) ∷ hex_bytes s

-- what decoding a word into a buffer of so many bytes from a place on tells: the place behind the last byte, where the word is bytes and
-- they fit. `-`, 45, is no bytes, and fits anywhere
unfoldable pub decoded : (word : Bytes) (at room : ℕ) → Option ℕ
decoded word at room =
    if equal word (45 ∷ []) then Some at
    otherwise if eqb (length word) 0 then None
    otherwise if not (is_hex word) then None
    otherwise if ltb room (at + length (hex_bytes word)) then None
    otherwise Some (at + length (hex_bytes word))

-- that is told, and where it is a place the bytes are put; a wrong word may have been put in part
abbrev pub Decoding : (word : Bytes) (at : ℕ) (buffer : Bytes) (told : Option ℕ) (after : Bytes) → Type 0
Decoding word at buffer told after =
    (told ≡ decoded word at (length buffer)) × ((end : ℕ) → told ≡ Some end → after ≡ paste buffer at (hex_bytes word))

-- the same of two words, the second's bytes behind the first's, which end at middle
unfoldable pub second_decoded : (middle : ℕ) (told : Option ℕ) → Option (ℕ × ℕ)
second_decoded middle (Some end) = Some (middle, end)
second_decoded middle None = None

unfoldable pub first_decoded : (told : Option ℕ) (second : Bytes) (room : ℕ) → Option (ℕ × ℕ)
first_decoded (Some middle) second room = second_decoded middle (decoded second middle room)
first_decoded None second room = None

abbrev pub parted : (first second : Bytes) (room : ℕ) → Option (ℕ × ℕ)
parted first second room = first_decoded (decoded first 0 room) second room

abbrev pub Parting : (first second buffer : Bytes) (told : Option (ℕ × ℕ)) (after : Bytes) → Type 0
Parting first second buffer told after =
    (told ≡ parted first second (length buffer))
    × ((middle end : ℕ) → told ≡ Some (middle, end) → after ≡ paste buffer 0 (hex_bytes first ++ hex_bytes second))
