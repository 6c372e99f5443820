-- The words of a line, which single spaces part. Spaces that are doubled, or stand at an end, make an empty word.
use Rattle.std.specs.Prelude.{ℕ, zero, suc, ◌+◌, [], ◌∷◌, take, drop, eqb}
use Rattle.wire_read.specs.Wire.{Bytes}
use Rattle.wire_read.specs.Tests.{if◌then◌otherwise◌}

-- how long the first word is: a space, 32, ends it, or the line's end
unfoldable pub word_length : (line : Bytes) → ℕ
word_length [] = 0
word_length (b ∷ s) = if eqb b 32 then 0 otherwise 1 + word_length s

-- how many words a line has: one more than spaces
unfoldable pub word_count : (line : Bytes) → ℕ
word_count [] = 1
word_count (b ∷ s) = if eqb b 32 then 1 + word_count s otherwise word_count s

-- word k of a line, the first being 0; empty where the line has fewer
unfoldable pub word_of : (line : Bytes) (k : ℕ) → Bytes
word_of line zero = take (word_length line) line
word_of line (suc k) = word_of (drop (word_length line + 1) line) k
