use mathlib.Core.Path.{◌≡◌}
use Prim.Native.Nat.{◌-◌}
use Rattle.policy_lines.specs.Lines.{place}
use Rattle.policy_suits.specs.Suits.{lowest_in, lowest_transform}
use Rattle.policy_suits.proofs.lowest.Given as goal

abbrev pub invariant-loop-passed : goal.invariant-loop-passed
invariant-loop-passed l =
    lowest_in (l.count - l._passed) l.exchange (place l.line) l.book l.protocol l.rest
    ≡ lowest_transform l.exchange (place l.line) l.book l.p
