use Rattle.std.proofs.Common.{rules, ◌≡◌}
use Rattle.sa_sets.specs.Sets.{set}
use Rattle.policy_lawful.specs.Lawful.{◌or_else◌, replied_set, other_transforms, choice_differs}
use Rattle.policy_lawful.specs.Difference.{difference_told}
use Rattle.policy_lawful.proofs.LawfulWays.{or_told}
use Rattle.policy_lawful.proofs.choice_differs.Goals as goal

pub returns-in-Err : goal.returns-in-Err
unfolding choice_differs
returns-in-Err c = rw c.in-Err.is

pub returns-in-Ok : goal.returns-in-Ok
unfolding choice_differs replied_set
returns-in-Ok c =
    let both : difference_told c.or_else.result
    ≡ (difference_told c.other_set.result or_else other_transforms (set 0 c.args.reply.now) c.in-Ok.choice.transforms) =
    or_told _ _ _ c.or_else.ensures (λ p. search rules) in
    rw (c.in-Ok.is, ← c.replied_number.ensures, ← c.other_set.ensures) both
