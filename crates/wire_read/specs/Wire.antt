-- Bytes as they lie on the wire, as lists of numbers: what every other crate says of reading it says in these words.
-- "All numbers on the wire are big-endian."
use Rattle.std.specs.Prelude.{ℕ, zero, suc, ◌+◌, ◌*◌, ◌<◌, ◌≡◌, List, [], ◌∷◌, Bool, true, false, ◌&&◌, get_or, eqb}

abbrev pub Bytes : Type 0
Bytes = List ℕ

-- what a check answers: 0 where it lets pass, else the number of the refusal
abbrev pub Code : Type 0
Code = ℕ

-- the number that the n bytes at i spell, the highest first; a byte past the end counts as 0
unfoldable pub number_at : (n : ℕ) (s : Bytes) (i : ℕ) → ℕ
number_at zero s i = 0
number_at (suc n) s i = number_at n s i * 256 + get_or s (i + n) 0

-- these are the n bytes at i
abbrev pub BytesAt : (n : ℕ) (s : Bytes) (i : ℕ) (bytes : Bytes) → Type 0
BytesAt n s i bytes = (k : ℕ) → k < n → get_or bytes k 0 ≡ get_or s (i + k) 0

-- payloads, proposals and transforms begin alike: next (1 byte), reserved (1), length (2)
abbrev pub next_field : (s : Bytes) → ℕ
next_field s = get_or s 0 0

abbrev pub reserved_field : (s : Bytes) → ℕ
reserved_field s = get_or s 1 0

abbrev pub length_field : (s : Bytes) → ℕ
length_field s = number_at 2 s 2

-- the same of the one that begins at a place
abbrev pub next_at : (s : Bytes) (at : ℕ) → ℕ
next_at s at = get_or s at 0

abbrev pub length_at : (s : Bytes) (at : ℕ) → ℕ
length_at s at = number_at 2 s (at + 2)

-- every byte is zero
unfoldable pub all_zero : (s : Bytes) → Bool
all_zero [] = true
all_zero (b ∷ s) = eqb b 0 && all_zero s

-- the same bytes, and as many
unfoldable pub equal : (s t : Bytes) → Bool
equal [] [] = true
equal [] (b ∷ t) = false
equal (a ∷ s) [] = false
equal (a ∷ s) (b ∷ t) = eqb a b && equal s t
