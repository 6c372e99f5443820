use Rattle.policy_book.proofs.BookWays.{front_fields}
use Rattle.policy_book.proofs.book_in_front.Goals as goal

pub returns : goal.returns
returns c = search front_fields
