-- The depth bounds the calls: an element calls the list with a level less, and the list calls the element with the same levels.
-- In the list the bytes that are left fall at each turn, and decide.
use Prim.Native.Nat.{◌+◌, ◌*◌}
use mathlib.Core.Path.{◌≡◌}
use lib.ListN.{length}
use Rattle.der.specs.Der.{filled, element}
use Rattle.der.proofs.+element_list.Given as goal

abbrev pub decreases-element : goal.decreases-element
decreases-element l = l.levels * 2

abbrev pub decreases-list : goal.decreases-list
decreases-list l = l.levels * 2 + 1

abbrev pub invariant-list-loop-rest : goal.invariant-list-loop-rest
invariant-list-loop-rest l = filled (element l.levels) l.rest ≡ filled (element l.levels) l.s

abbrev pub decreases-list-loop-rest : goal.decreases-list-loop-rest
decreases-list-loop-rest l = length l.rest
