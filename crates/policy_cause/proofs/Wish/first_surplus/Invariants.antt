use Rattle.std.proofs.Common.{◌≡◌, ◌-◌}
use Rattle.policy_cause.specs.Causes.{first_surplus}
use Rattle.policy_cause.proofs.Wish.first_surplus.Given as goal

abbrev pub invariant-loop-passed : goal.invariant-loop-passed
invariant-loop-passed l = first_surplus 16 l.fn.self l.fn.attributes ≡ first_surplus (16 - l._passed) l.self l.s
