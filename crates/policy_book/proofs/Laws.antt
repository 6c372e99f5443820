-- How long a lawful book is.
use Prim.Native.Nat.{ℕ, ◌≤◌}
use mathlib.Core.Path.{◌≡◌}
use mathlib.Core.List.{List}
use mathlib.Core.Bool.{true}
use native.Mathlib.Omega.{arith}
use lib.ListN.{length}
use lib.Dec.{leb}
use borrow.Author.Tests.{leb-true}
use Rattle.wire_read.proofs.Tests.{both}
use Rattle.policy_lines.specs.Lines.{main_count, quick_start, quick_count, book_size}
use Rattle.policy_book.specs.Book.{book_in_front, main_lines_lawful, quick_lines_lawful}

-- a lawful book has 82 bytes at most
pub book-short : (book : List ℕ) → book_in_front book ≡ true → book_size book ≡ length book → length book ≤ 82
unfolding book_in_front book_size quick_start
book-short book front whole =
    let main = both _ (quick_lines_lawful (quick_count book) book) front in
    let room = both _ (main_lines_lawful (main_count book) book) main.0 in
    let some = both _ (leb (book_size book) (length book)) room.0 in
    let counts = both _ (leb 1 (length book)) some.0 in
    let few = both (leb (main_count book) 8) (leb (quick_count book) 8) counts.0 in
    omega (arith, leb-true (main_count book) 8 few.0, leb-true (quick_count book) 8 few.1)
