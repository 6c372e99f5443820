use Rattle.policy_lawful.specs.Lawful.{lawful_by}
use Rattle.policy_lawful.proofs.LawfulWays.{by_repeat}
use Rattle.policy_lawful.proofs.Difference.refusal.Goals as goal

pub returns-in-OfferRefused : goal.returns-in-OfferRefused
unfolding lawful_by
returns-in-OfferRefused c = rw c.in-OfferRefused.is

pub returns-in-BookRefused : goal.returns-in-BookRefused
unfolding lawful_by
returns-in-BookRefused c = rw c.in-BookRefused.is

pub returns-in-ReplyRefused : goal.returns-in-ReplyRefused
unfolding lawful_by
returns-in-ReplyRefused c = rw c.in-ReplyRefused.is

pub returns-in-OtherSet : goal.returns-in-OtherSet
unfolding lawful_by
returns-in-OtherSet c = rw c.in-OtherSet.is

pub returns-in-OtherTransform : goal.returns-in-OtherTransform
unfolding lawful_by
returns-in-OtherTransform c = rw c.in-OtherTransform.is

pub returns-in-NothingChosen : goal.returns-in-NothingChosen
unfolding lawful_by
returns-in-NothingChosen c = rw c.in-NothingChosen.is

pub returns-in_default : goal.returns-in_default
returns-in_default c =
    let d = c.in_default in
    by_repeat _ d.not-OfferRefused d.not-BookRefused d.not-ReplyRefused d.not-OtherSet d.not-OtherTransform d.not-NothingChosen
