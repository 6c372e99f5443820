use Rattle.std.proofs.Common.{sym, ◌∙◌}
use Rattle.policy_lawful.proofs.LawfulWays.{reply_unread, reply_read}
use Rattle.policy_lawful.proofs.reply_refused.Goals as goal

pub returns-in_err-refusal : goal.returns-in_err-refusal
returns-in_err-refusal c =
    rw (c.from_residual.ensures, ← c.message_offer.ensures) (reply_read c.message_offer.result (sym c.err.ensures.value ∙ c.in_err-refusal.was))

pub returns : goal.returns
returns c = rw (← c.message_offer.ensures) (reply_unread c.message_offer.result _ (sym c.err.ensures.value ∙ c.in_ok-refusal.was))
