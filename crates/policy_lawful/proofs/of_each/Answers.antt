use Rattle.std.proofs.Common.{sym, ◌∙◌}
use Rattle.policy_lawful.proofs.LawfulWays.{each-first, each-last}
use Rattle.policy_lawful.proofs.of_each.Goals as goal

pub returns-then-is_some : goal.returns-then-is_some
returns-then-is_some g c told says =
    each-first told _ _ _ _ c.proposal.ensures c.proposal-2.ensures _ (says _ _ _ c.difference-first.ensures) (sym c.is_some.ensures ∙ c.if-is_some.true)

pub returns : goal.returns
returns g c told says =
    each-last told _ _ _ _ c.proposal.ensures c.proposal-2.ensures _ (says _ _ _ c.difference-first.ensures) (sym c.is_some.ensures ∙ c.if-is_some.false)
    _ _ _ c.last.ensures c.last-2.ensures (says _ _ _ c.difference.ensures)
