use mathlib.Core.Path.{◌≡◌}
use Prim.Native.Nat.{◌-◌}
use Rattle.policy_suits.specs.Suits.{find_duration}
use Rattle.policy_suits.proofs.find_duration.Given as goal

abbrev pub invariant-loop-passed : goal.invariant-loop-passed
invariant-loop-passed l = find_duration (l.most - l._passed) l.lifetype l.unit l.rest ≡ find_duration l.most l.lifetype l.unit l.s
