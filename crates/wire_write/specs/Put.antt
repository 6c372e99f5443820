-- Bytes as they are written, as lists of numbers: what every other crate says of writing it says in these words.
-- "All numbers on the wire are big-endian."
use Rattle.std.specs.Prelude.{ℕ, zero, suc, ◌+◌, ◌/◌, ◌%◌, [], ◌∷◌, ◌++◌, length, set}
use Rattle.wire_read.specs.Wire.{Bytes}

-- the n bytes that spell x
unfoldable pub bytes_of : (n x : ℕ) → Bytes
bytes_of zero x = []
bytes_of (suc n) x = bytes_of n (x / 256) ++ (x % 256 ∷ [])

-- payloads, proposals and transforms begin alike: next (1 byte), reserved (1, zero), length (2)
unfoldable pub head : (next size : ℕ) → Bytes
head next size = next ∷ 0 ∷ bytes_of 2 size

-- such a beginning with the rest behind it, the length counting both
unfoldable pub headed : (next : ℕ) (rest : Bytes) → Bytes
headed next rest = head next (4 + length rest) ++ rest

-- the buffer with xs written over it from place i on; what would lie past its end is left out
unfoldable pub paste : (buffer : Bytes) (i : ℕ) (xs : Bytes) → Bytes
paste buffer i [] = buffer
paste buffer i (x ∷ xs) = paste (set buffer i x) (i + 1) xs

-- writing bytes at a place: how many they are, and the buffer after it
unfoldable pub put : (buffer : Bytes) (i : ℕ) (xs : Bytes) → ℕ × Bytes
put buffer i xs = (length xs, paste buffer i xs)
