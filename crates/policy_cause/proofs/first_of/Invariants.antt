use Rattle.std.proofs.Common.{◌≡◌, ℕ, drop, Option}
use Rattle.policy_cause.specs.declared.Cause.{Cause}
use Rattle.policy_cause.specs.Causes.{first_cause, Tells}
use Rattle.policy_cause.proofs.first_of.Given as goal

-- those before this one have no cause
abbrev pub invariant-loop-attributetype : goal.invariant-loop-attributetype
invariant-loop-attributetype g l =
    (told : ℕ × ℕ → Option Cause) → Tells told (goal.F-post g l.fn.cause) →
    first_cause told l.fn.wanted ≡ first_cause told (drop l.attributetype-index l.fn.wanted)
