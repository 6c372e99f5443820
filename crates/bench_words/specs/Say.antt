-- What an answer says, as bytes, and where they are put.
use Rattle.std.specs.Prelude.{ℕ, zero, suc, ◌+◌, ◌/◌, ◌%◌, min, ◌≡◌, [], ◌∷◌, ◌++◌, length, eqb, ltb}
use Rattle.wire_read.specs.Wire.{Bytes}
use Rattle.wire_read.specs.Tests.{if◌then◌otherwise◌}
use Rattle.wire_write.specs.Put.{paste}
use Rattle.sequence_record.specs.Verdict.{Verdict, Accepted, Refused}
use Rattle.sequence_record.specs.declared.LossLine.{LossLine}
use Rattle.policy_choice.specs.declared.Transforms.{Transforms}
use Rattle.policy_choice.specs.declared.Transforms.TheVariants.{One, Two}

-- the text was put into the buffer from a place on, and r is the place behind it. What does not fit is left out, and the buffer is full
abbrev pub Said : (buffer : Bytes) (at : ℕ) (text : Bytes) (r : ℕ) (after : Bytes) → Type 0
Said buffer at text r after = (after ≡ paste buffer at text) × (r ≡ min (at + length text) (length after))

-- the ASCII code of a digit below 16: `0` to `9`, then `a` to `f`
abbrev pub hex_digit_ascii : (d : ℕ) → ℕ
hex_digit_ascii d = if ltb d 10 then 48 + d otherwise 87 + d

-- a number in decimal, with no zero in front, of at most so many digits; as many as the number and one more are always enough
unfoldable pub digits_text : (most n : ℕ) → Bytes
digits_text zero n = []
digits_text (suc most) n = if ltb n 10 then hex_digit_ascii n ∷ [] otherwise digits_text most (n / 10) ++ (hex_digit_ascii (n % 10) ∷ [])

abbrev pub decimal_text : (n : ℕ) → Bytes
decimal_text n = digits_text (n + 1) n

-- a space, 32, and a number
abbrev pub number_text : (n : ℕ) → Bytes
number_text n = (32 ∷ []) ++ decimal_text n

-- bytes in hex
abbrev pub hex_byte_text : (b : ℕ) → Bytes
hex_byte_text b = hex_digit_ascii (b / 16) ∷ hex_digit_ascii (b % 16) ∷ []

unfoldable pub hex_text : (bytes : Bytes) → Bytes
hex_text [] = []
hex_text (b ∷ s) = hex_byte_text b ++ hex_text s

-- bytes as a word of a line: `-`, 45, for no bytes
unfoldable pub word_text : (bytes : Bytes) → Bytes
word_text bytes = if eqb (length bytes) 0 then 45 ∷ [] otherwise hex_text bytes

-- `refused` and a number
abbrev pub refused_text : (n : ℕ) → Bytes
refused_text n = (114 ∷ 101 ∷ 102 ∷ 117 ∷ 115 ∷ 101 ∷ 100 ∷ []) ++ number_text n

-- `bad line`
abbrev pub bad_line_text : Bytes
bad_line_text = 98 ∷ 97 ∷ 100 ∷ 32 ∷ 108 ∷ 105 ∷ 110 ∷ 101 ∷ []

-- `accepted` and the rise, or the refusal
unfoldable pub verdict_text : (told : Verdict) → Bytes
verdict_text (Accepted rise) = (97 ∷ 99 ∷ 99 ∷ 101 ∷ 112 ∷ 116 ∷ 101 ∷ 100 ∷ []) ++ number_text rise
verdict_text (Refused n) = refused_text n

-- `loss` and the line's three numbers
abbrev pub loss_text : (l : LossLine) → Bytes
loss_text l = (108 ∷ 111 ∷ 115 ∷ 115 ∷ []) ++ number_text l.highest ++ number_text l.span ++ number_text l.count

-- the number of each transform
unfoldable pub transforms_text : (transforms : Transforms) → Bytes
transforms_text (One t) = number_text t.0
transforms_text (Two t u) = number_text t.0 ++ number_text u.0
