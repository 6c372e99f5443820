use Rattle.policy_lines.specs.Lines.{book_size}
use Rattle.policy_lines.proofs.book_size.Goals as goal

pub returns : goal.returns
unfolding book_size
returns c = cc
