use Rattle.std.proofs.Common.{sym, ◌∙◌}
use Rattle.policy_lawful.specs.Lawful.{first_difference}
use Rattle.policy_lawful.proofs.LawfulWays.{there, absent}
use Rattle.policy_lawful.proofs.first_difference.Goals as goal

pub returns-then-is_some : goal.returns-then-is_some
unfolding first_difference
returns-then-is_some c = rw (← c.unread-found.ensures) (there _ c.unread-found.result (sym c.is_some.ensures ∙ c.if-is_some.true))

pub returns : goal.returns
unfolding first_difference
returns c =
    rw (← c.unread-found.ensures, ← c.byte.ensures, ← c.sa_body.ensures, ← c.sa_body-2.ensures)
    (c.compared.ensures ∙ absent _ c.unread-found.result (sym c.is_some.ensures ∙ c.if-is_some.false))
