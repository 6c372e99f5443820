-- What is told of a book's reading is told of one answer only.
use Rattle.std.specs.Prelude.{◌≡◌, refl, Result, Ok, Err}
use Rattle.std.proofs.Common.{sym, ap, ◌∙◌}
use Rattle.refusal.specs.declared.Refusal.{Refusal}
use Rattle.refusal.proofs.Laws.{refusal_of, refusal_of-number}
use Rattle.policy_book.specs.declared.Book.{Book as Found}
use Rattle.policy_book.specs.Book.{Book, Refused, Lawful, book_told}

-- the answer of which this is told
abbrev answer_of : (told : Book) → Result Found Refusal
answer_of (Refused n) = Err (refusal_of n)
answer_of (Lawful main quick) = Ok (record { main = main; quick = quick })

answer_of-told : (answer : Result Found Refusal) → answer_of (book_told answer) ≡ answer
answer_of-told (Ok found) = refl
answer_of-told (Err refusal) = ap Err (refusal_of-number refusal)

pub book_told-injective : (x y : Result Found Refusal) → book_told x ≡ book_told y → x ≡ y
book_told-injective x y same = sym (answer_of-told x) ∙ ap answer_of same ∙ answer_of-told y
