use mathlib.Core.Path.{◌≡◌}
use Rattle.sequence_history.specs.History.{highest}
use Rattle.sequence_plain.specs.Plain.{first_numbers}
use Rattle.sequence_plain.proofs.highest_of.Given as goal

abbrev pub invariant-loop-number : goal.invariant-loop-number
invariant-loop-number l = l.highest ≡ highest (first_numbers l.list l.number-index)
