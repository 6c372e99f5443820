use mathlib.Core.Path.{◌≡◌}
use Rattle.policy_book.specs.Book.{main_lines_lawful}
use Rattle.policy_book.proofs.main_lines_lawful.Given as goal

abbrev pub invariant-loop-i : goal.invariant-loop-i
invariant-loop-i l = l.lawful ≡ main_lines_lawful l.i l.book
