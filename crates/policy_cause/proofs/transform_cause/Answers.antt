use Rattle.std.proofs.Common.{arith}
use Rattle.std.proofs.lemmas.Grind.{common_steps}
use Rattle.policy_cause.specs.Causes.{◌or_else◌, wish_cause, transform_cause}
use Rattle.policy_cause.proofs.transform_cause.Goals as goal

pub returns : goal.returns
unfolding transform_cause wish_cause ◌or_else◌
returns c = grind (arith, common_steps)
