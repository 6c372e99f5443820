use Rattle.std.proofs.Common.{arith}
use Rattle.std.proofs.lemmas.Grind.{common_steps}
use Rattle.policy_cause.specs.Causes.{value_one, value_cause}
use Rattle.policy_cause.proofs.Wish.value_cause.Goals as goal

pub returns : goal.returns
unfolding value_cause
returns c = c.first_wanted.ensures (λ a. value_one c.args.self.lifetype a.0 a.1 c.args.attributes.now) (λ t v r given. grind (arith, common_steps))
