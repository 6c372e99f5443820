use Rattle.policy_book.specs.Book.{main_line_lawful}
use Rattle.policy_book.proofs.main_line_lawful.Goals as goal

pub returns : goal.returns
unfolding main_line_lawful
returns c = cc
