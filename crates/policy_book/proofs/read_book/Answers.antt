use Rattle.policy_book.proofs.BookWays.{book-lawful, book_unlawful}
use Rattle.policy_book.proofs.read_book.Goals as goal

pub returns-then-book_in_front-book_size : goal.returns-then-book_in_front-book_size
returns-then-book_in_front-book_size c = search book-lawful

pub returns-else-book_in_front-book_size : goal.returns-else-book_in_front-book_size
returns-else-book_in_front-book_size c = search book_unlawful
