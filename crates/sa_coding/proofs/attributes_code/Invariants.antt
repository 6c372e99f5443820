use mathlib.Core.Path.{◌≡◌}
use lib.ListN.{take, drop}
use Rattle.sa_coding.specs.Coding.{attributes_from, attributes_code}
use Rattle.sa_coding.proofs.attributes_code.Given as goal

abbrev pub invariant-loop-at : goal.invariant-loop-at
invariant-loop-at l = attributes_from l.left l.exchange l.behindlifetype (take l.at l.s) (drop l.at l.s) ≡ attributes_code l.exchange l.s

abbrev pub decreases-loop-at : goal.decreases-loop-at
decreases-loop-at l = l.left
