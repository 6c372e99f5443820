use Rattle.std.proofs.Common.{rules}
use Rattle.policy_cause.specs.Causes.{missing_one, missing_cause}
use Rattle.policy_cause.proofs.Wish.missing_cause.Goals as goal

pub returns : goal.returns
unfolding missing_cause
returns c = c.first_wanted.ensures (λ a. missing_one c.args.self.lifetype a.0 c.args.attributes.now) (λ t v r given. search rules)
