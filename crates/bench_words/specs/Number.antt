-- A word that is a number: in decimal, or as four or eight bytes in hex.
use Rattle.std.specs.Prelude.{ℕ, ◌+◌, ◌*◌, [], ◌∷◌, Bool, true, ◌&&◌, ◌||◌, Option, Some, None, length, get_or, eqb, leb, ltb}
use Rattle.wire_read.specs.Tests.{if◌then◌otherwise◌}
use Rattle.wire_read.specs.Wire.{Bytes, number_at}
use Rattle.bench_words.specs.Hex.{digit_value, is_hex, hex_bytes}

-- every byte is a decimal digit
unfoldable pub is_decimal : (word : Bytes) → Bool
is_decimal [] = true
is_decimal (d ∷ s) = ltb (digit_value d) 10 && is_decimal s

-- the number that n and then the digits spell
unfoldable pub spelled : (n : ℕ) (word : Bytes) → ℕ
spelled n [] = n
spelled n (d ∷ s) = spelled (n * 10 + digit_value d) s

-- a word in decimal, up to the most that is lawful; it is not empty, and has no zero, 48, before other digits
unfoldable pub decimal : (word : Bytes) (most : ℕ) → Option ℕ
decimal word most =
    if eqb (length word) 0 || ltb 1 (length word) && eqb (get_or word 0 0) 48 then None
    otherwise if is_decimal word && leb (spelled 0 word) most then Some (spelled 0 word)
    otherwise None

-- eight digits in hex, no fewer and no more
unfoldable pub four_bytes : (word : Bytes) → Option ℕ
four_bytes word = if eqb (length word) 8 && is_hex word then Some (number_at 4 (hex_bytes word) 0) otherwise None

-- sixteen
unfoldable pub eight_bytes : (word : Bytes) → Option ℕ
eight_bytes word = if eqb (length word) 16 && is_hex word then Some (number_at 8 (hex_bytes word) 0) otherwise None
