-- Invariant: what is found so far is spelled.
use Rattle.capture_words.proofs.Decimal.{Spelled}
use Rattle.capture_words.proofs.number.spell.Given as goal

abbrev pub invariant-loop-rest : goal.invariant-loop-rest
invariant-loop-rest l = Spelled l.n l.rest l.at l.text

abbrev pub decreases-loop-rest : goal.decreases-loop-rest
decreases-loop-rest l = l.at
