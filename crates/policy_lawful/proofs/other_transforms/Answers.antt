use Rattle.std.proofs.Common.{rules, ◌≡◌}
use Rattle.policy_lawful.specs.Lawful.{◌or_else◌, last, other_transform}
use Rattle.policy_lawful.specs.Difference.{difference_told}
use Rattle.policy_lawful.proofs.LawfulWays.{or_told, chose_one, chose_two}
use Rattle.policy_lawful.proofs.other_transforms.Goals as goal

pub returns-in-One : goal.returns-in-One
returns-in-One c = search chose_one

pub returns-in-Two : goal.returns-in-Two
returns-in-Two c =
    let both : difference_told c.or_else.result ≡ (difference_told c.other_transform-in-Two.result or_else other_transform c.in-Two.u (last c.args.s.now)) =
    or_told _ _ _ c.or_else.ensures (λ p. search rules) in
    search chose_two
