use mathlib.Core.Path.{◌≡◌}
use Rattle.sequence_history.specs.History.{member}
use Rattle.sequence_plain.specs.Plain.{first_numbers}
use Rattle.sequence_plain.proofs.is_in.Given as goal

abbrev pub invariant-loop-kept : goal.invariant-loop-kept
invariant-loop-kept l = l.found ≡ member l.number (first_numbers l.list l.kept-index)
