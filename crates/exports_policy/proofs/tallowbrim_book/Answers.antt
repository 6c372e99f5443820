use Prim.Native.Nat.{ℕ}
use mathlib.Core.Path.{◌≡◌, refl}
use mathlib.Core.List.{List, [], ◌∷◌}
use Rattle.exports_words.specs.Given.{given, left, words}
use Rattle.policy_book.specs.Book.{book_answer}
use Rattle.policy_book.specs.Book.{Book}
use Rattle.policy_book.specs.Book.{Refused, Lawful}
use Rattle.exports_policy.proofs.tallowbrim_book.Goals as goal

module _ (answer said : Book) (same : answer ≡ said) (out : List ℕ) where
  given-refused : (number : ℕ) → answer ≡ Refused number → given 2 (book_answer said) out ≡ (number, out)
  unfolding given left book_answer
  given-refused number is = rw (← same, is)

  given-lawful : (main quick : ℕ) → answer ≡ Lawful main quick → given 2 (book_answer said) out ≡ (0, main ∷ quick ∷ [])
  unfolding given left words book_answer
  given-lawful main quick is = rw (← same, is)

pub returns-in-Err : goal.returns-in-Err
returns-in-Err c = rw c.from.ensures (given-refused _ _ c.in-Err.ensures _ _ refl)

pub returns-in-Ok : goal.returns-in-Ok
returns-in-Ok c = given-lawful _ _ c.in-Ok.ensures _ _ _ refl
