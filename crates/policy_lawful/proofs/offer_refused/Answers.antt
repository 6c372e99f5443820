use Rattle.std.proofs.Common.{sym, ◌∙◌}
use Rattle.policy_lawful.proofs.LawfulWays.{offer-unread, offer-read}
use Rattle.policy_lawful.proofs.offer_refused.Goals as goal

pub returns-in_err-refusal : goal.returns-in_err-refusal
returns-in_err-refusal c =
    rw (c.from_residual.ensures, ← c.message_offer.ensures) (offer-read c.message_offer.result (sym c.err.ensures.value ∙ c.in_err-refusal.was))

pub returns : goal.returns
returns c = rw (← c.message_offer.ensures) (offer-unread c.message_offer.result _ (sym c.err.ensures.value ∙ c.in_ok-refusal.was))
