-- A law for each way out of the functions on the book.
use Prim.Native.Nat.{ℕ, suc, ◌-◌}
use mathlib.Core.Path.{◌≡◌}
use mathlib.Core.List.{List}
use mathlib.Core.Bool.{Bool, true, false, ◌&&◌}
use native.Mathlib.Omega.{arith}
use lib.ListN.{length, get_or}
use lib.Dec.{eqb, leb}
use Rattle.policy_book.specs.Book.{main_line_lawful, quick_line_lawful, main_lines_lawful, quick_lines_lawful, book_in_front, book_read}
use Rattle.policy_lines.specs.Lines.{book_size, quick_count, quick_protocols, quick_mode, quick_seconds}
use Rattle.policy_book.specs.Book.{Refused, Lawful}

pub quick-fields : (i : ℕ) (book : List ℕ) (protocols mode seconds : ℕ) → protocols ≡ quick_protocols i book → mode ≡ quick_mode i book →
    seconds ≡ quick_seconds i book →
    (leb 1 protocols && leb protocols 2 && leb 1 mode && leb mode 4 && leb 1 seconds && leb seconds 3600) ≡ quick_line_lawful i book
unfolding quick_line_lawful
quick-fields i book protocols mode seconds ep em es = rw (← ep, ← em, ← es)

module _ (n : ℕ) (book : List ℕ) where
  pub main-none : n ≡ 0 → true ≡ main_lines_lawful n book
  unfolding main_lines_lawful
  main-none z = rw z

  pub quick-none : n ≡ 0 → true ≡ quick_lines_lawful n book
  unfolding quick_lines_lawful
  quick-none z = rw z

module _ (n : ℕ) (book : List ℕ) (some : n ≡ 0 → ⊥) (a b : Bool) where
  pub main-more : a ≡ main_lines_lawful (n - 1) book → b ≡ main_line_lawful (n - 1) book → (a && b) ≡ main_lines_lawful n book
  unfolding main_lines_lawful
  main-more ea eb = let i : n ≡ suc (n - 1) = omega arith in rw (i, ← ea, ← eb)

  pub quick-more : a ≡ quick_lines_lawful (n - 1) book → b ≡ quick_line_lawful (n - 1) book → (a && b) ≡ quick_lines_lawful n book
  unfolding quick_lines_lawful
  quick-more ea eb = let i : n ≡ suc (n - 1) = omega arith in rw (i, ← ea, ← eb)

module _ (book : List ℕ) (f : Bool) (n : ℕ) (ef : f ≡ book_in_front book) (en : n ≡ book_size book) where
  pub book-lawful : (f && eqb n (length book)) ≡ true → (main quick : ℕ) → main ≡ get_or book 0 0 → quick ≡ quick_count book → Lawful main quick ≡ book_read book
  unfolding book_read
  book-lawful h main quick em eq = rw (← ef, ← en, h, em, eq)

  pub book_unlawful : (f && eqb n (length book)) ≡ false → Refused 8193 ≡ book_read book
  unfolding book_read
  book_unlawful h = rw (← ef, ← en, h)

pub front_fields : (s : List ℕ) (main quick size : ℕ) (mains quicks : Bool) → main ≡ get_or s 0 0 → quick ≡ quick_count s → size ≡ book_size s →
    mains ≡ main_lines_lawful main s → quicks ≡ quick_lines_lawful quick s →
    (leb main 8 && leb quick 8 && leb 1 (length s) && leb size (length s) && mains && quicks) ≡ book_in_front s
unfolding book_in_front
front_fields s main quick size mains quicks em eq es el ek = rw (← em, ← eq, ← es, ← el, ← ek)
