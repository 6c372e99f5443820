use Rattle.std.proofs.Common.{rules, ◌≡◌}
use Rattle.policy_lawful.specs.Lawful.{◌or_else◌, protocols_differ, transforms_differ}
use Rattle.policy_lawful.specs.Difference.{difference_told}
use Rattle.policy_lawful.proofs.LawfulWays.{or_told, bodies_compared}
use Rattle.policy_lawful.proofs.bodies_differ.Goals as goal

pub returns : goal.returns
returns c =
    let o = c.offered_set-offered.result.now in
    let s = c.set-s.result.now in
    let two : difference_told c.or_else.result ≡ (difference_told c.sets_differ.result or_else protocols_differ o s) =
    or_told _ _ _ c.or_else.ensures (λ p. search rules) in
    let all : difference_told c.or_else-2.result ≡ (difference_told c.or_else.result or_else transforms_differ o s) =
    or_told _ _ _ c.or_else-2.ensures (λ p. search rules) in
    search bodies_compared
