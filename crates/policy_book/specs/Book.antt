-- The policy book, document 01, "Policy book and choice": a count byte, main lines, a count byte, quick lines.
use Rattle.std.specs.Prelude.{ℕ, zero, suc, Result, Ok, Err, [], ◌∷◌, Bool, true, ◌&&◌, length, leb, eqb}
use Rattle.wire_read.specs.Wire.{Bytes}
use Rattle.wire_read.specs.Tests.{if◌then◌otherwise◌}
use Rattle.wire_read.specs.Answer.{Answer, done, refused}
use Rattle.policy_lines.specs.Lines.{main_count, quick_count, book_size, main_seconds, quick_protocols, quick_mode, quick_seconds}
use Rattle.policy_book.specs.declared.Book.{Book as Found}
use Rattle.refusal.specs.declared.Refusal.{Refusal}
use Rattle.refusal.specs.Numbers.{number}

-- what a book is read as, and what the code says so by
pub data Book : Type 0 where
  Refused : (number : ℕ) → Book
  Lawful : (main quick : ℕ) → Book

abbrev pub book_told : (answer : Result Found Refusal) → Book
book_told (Ok found) = Lawful found.main found.quick
book_told (Err refusal) = Refused (number refusal)

-- "four-byte longest seconds, 1 to 86,400"
unfoldable pub main_line_lawful : (i : ℕ) (book : Bytes) → Bool
main_line_lawful i book = leb 1 (main_seconds i book) && leb (main_seconds i book) 86400

-- "protocols: 1 ESP alone, 2 AH with ESP; mode 1 to 4; four-byte seconds, 1 to 3,600"
unfoldable pub quick_line_lawful : (i : ℕ) (book : Bytes) → Bool
quick_line_lawful i book =
    leb 1 (quick_protocols i book) && leb (quick_protocols i book) 2 && leb 1 (quick_mode i book) && leb (quick_mode i book) 4
    && leb 1 (quick_seconds i book) && leb (quick_seconds i book) 3600

-- the first n lines are lawful
unfoldable pub main_lines_lawful : (n : ℕ) (book : Bytes) → Bool
main_lines_lawful zero book = true
main_lines_lawful (suc n) book = main_lines_lawful n book && main_line_lawful n book

unfoldable pub quick_lines_lawful : (n : ℕ) (book : Bytes) → Bool
quick_lines_lawful zero book = true
quick_lines_lawful (suc n) book = quick_lines_lawful n book && quick_line_lawful n book

-- "a count byte 0 to 8, that many main lines ..; a count byte 0 to 8, that many quick lines": a lawful book stands at the front of s
unfoldable pub book_in_front : (s : Bytes) → Bool
book_in_front s =
    leb (main_count s) 8 && leb (quick_count s) 8 && leb 1 (length s) && leb (book_size s) (length s)
    && main_lines_lawful (main_count s) s && quick_lines_lawful (quick_count s) s

-- "Anything else, and bytes left over .. : 8193"
unfoldable pub book_read : (book : Bytes) → Book
book_read book = if book_in_front book && eqb (book_size book) (length book) then Lawful (main_count book) (quick_count book) otherwise Refused 8193

-- the paper's number and values for each case
unfoldable pub book_answer : (read : Book) → Answer
book_answer (Refused number) = refused number
book_answer (Lawful main quick) = done (main ∷ quick ∷ [])
