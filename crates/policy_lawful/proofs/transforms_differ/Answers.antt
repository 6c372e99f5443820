use Rattle.std.proofs.Common.{rules}
use Rattle.policy_lawful.specs.Lawful.{several_transforms, transform_not_offered, other_id, other_attributes, transforms_differ}
use Rattle.policy_lawful.proofs.LawfulWays.{both_told}
use Rattle.policy_lawful.proofs.transforms_differ.Goals as goal

pub returns : goal.returns
unfolding transforms_differ
returns c =
    let several = c.of_each.ensures (λ p q. several_transforms q) (λ p q found given. search rules) in
    let number = c.of_each-2.ensures transform_not_offered (λ p q found given. search rules) in
    let id = c.of_each-3.ensures other_id (λ p q found given. search rules) in
    let attributes = c.of_each-4.ensures other_attributes (λ p q found given. search rules) in
    rw (
      ← several,
      ← number,
      ← id,
      ← attributes,
      ← both_told c.of_each.result c.of_each-2.result,
      ← c.or.ensures,
      ← both_told c.or.result c.of_each-3.result,
      ← c.or-2.ensures,
      ← both_told c.or-2.result c.of_each-4.result,
      ← c.or-3.ensures,
    )
