-- The lines of a policy book, document 01, "Policy book and choice": a count byte, main lines, a count byte, quick lines.
use Rattle.std.specs.Prelude.{ℕ, ◌+◌, ◌-◌, ◌*◌, get_or}
use Rattle.wire_read.specs.Wire.{Bytes, number_at}
use Rattle.policy_lines.specs.declared.LineNumber.{LineNumber}

-- "policy line numbers" are counted from 1, the places of the lines from 0
abbrev pub place : (line : LineNumber) → ℕ
place line = line.0 - 1

abbrev pub line_at : (i : ℕ) → LineNumber
line_at i = record { 0 = i + 1 }

-- "a count byte 0 to 8", before each kind of line
abbrev pub main_count : (book : Bytes) → ℕ
main_count book = get_or book 0 0

unfoldable pub quick_start : (book : Bytes) → ℕ
quick_start book = 1 + 4 * main_count book

unfoldable pub quick_count : (book : Bytes) → ℕ
quick_count book = get_or book (quick_start book) 0

unfoldable pub book_size : (book : Bytes) → ℕ
book_size book = quick_start book + 1 + 6 * quick_count book

-- "main lines (four-byte longest seconds, 1 to 86,400)": line i, counted from 0
unfoldable pub main_seconds : (i : ℕ) (book : Bytes) → ℕ
main_seconds i book = number_at 4 book (1 + 4 * i)

-- "quick lines (protocols: 1 ESP alone, 2 AH with ESP; mode 1 to 4; four-byte seconds, 1 to 3,600)": where line i begins, counted from 0,
-- and what it says
unfoldable pub quick_at : (i : ℕ) (book : Bytes) → ℕ
quick_at i book = quick_start book + 1 + 6 * i

unfoldable pub quick_protocols : (i : ℕ) (book : Bytes) → ℕ
quick_protocols i book = get_or book (quick_at i book) 0

unfoldable pub quick_mode : (i : ℕ) (book : Bytes) → ℕ
quick_mode i book = get_or book (quick_at i book + 1) 0

unfoldable pub quick_seconds : (i : ℕ) (book : Bytes) → ℕ
quick_seconds i book = number_at 4 book (quick_at i book + 2)
