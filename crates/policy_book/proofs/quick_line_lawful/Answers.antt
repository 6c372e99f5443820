use Rattle.policy_book.proofs.BookWays.{quick-fields}
use Rattle.policy_book.proofs.quick_line_lawful.Goals as goal

pub returns : goal.returns
returns c = search quick-fields
