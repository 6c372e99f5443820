use Rattle.std.proofs.Common.{◌∙◌}
use Rattle.policy_why.proofs.Told.{why_told-handed_on}
use Rattle.policy_why.proofs.WhyWays.{why-refused, why-readable}
use Rattle.policy_why.proofs.cause_at.Goals as goal

pub returns-in_err-offer : goal.returns-in_err-offer
returns-in_err-offer c = let told = c.in_err-offer.ensures in
    why_told-handed_on c.from_residual.result c.in_err-offer.field-0.0 c.from_residual.ensures.1 ∙ search why-refused

pub returns : goal.returns
returns c = let told = c.in_ok-offer.ensures in search why-readable
