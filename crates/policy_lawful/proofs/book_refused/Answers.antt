use Rattle.std.proofs.Common.{sym, ◌∙◌}
use Rattle.policy_lawful.proofs.LawfulWays.{book-unread, book-read}
use Rattle.policy_lawful.proofs.book_refused.Goals as goal

pub returns-in_err-refusal : goal.returns-in_err-refusal
returns-in_err-refusal c =
    rw (c.from_residual-in_err-refusal.ensures, c.in_ok-book.was, ← c.read_book.ensures)
    (book-read c.read_book.result (sym c.err.ensures.value ∙ c.in_err-refusal.was))

pub returns : goal.returns
returns c =
    rw (c.in_ok-book.was, ← c.read_book.ensures) (book-unread c.read_book.result _ (sym c.err.ensures.value ∙ c.in_ok-refusal.was))
