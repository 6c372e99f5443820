use Rattle.std.proofs.Common.{◌∙◌}
use Rattle.policy_why.proofs.Told.{offer_told-handed_on}
use Rattle.policy_why.proofs.WhyWays.{offer-unread, offer-empty, offer-readable}
use Rattle.policy_why.proofs.message_offer.Goals as goal

pub returns-in_err-read : goal.returns-in_err-read
returns-in_err-read c = let told = c.in_err-read.ensures in
    offer_told-handed_on c.from_residual.result c.in_err-read.field-0.0 c.from_residual.ensures.1 ∙ search offer-unread

pub returns-then-sa_of-eq0 : goal.returns-then-sa_of-eq0
returns-then-sa_of-eq0 c = let told = c.in_ok-read.ensures in search offer-empty

pub returns : goal.returns
returns c = let told = c.in_ok-read.ensures in search offer-readable
