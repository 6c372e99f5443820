use Rattle.exports_words.specs.Given.{words}
use Rattle.policy_lawful.specs.Lawful.{difference_values}
use Rattle.exports_lawful.proofs.Ways.{nothing_form, difference_form}
use Rattle.exports_lawful.proofs.difference_words.Goals as goal

pub returns-in_default : goal.returns-in_default
returns-in_default c = nothing_form _ c.in_default.not-Some

pub returns-in-OfferRefused : goal.returns-in-OfferRefused
unfolding words difference_values
returns-in-OfferRefused c = search difference_form

pub returns-in-BookRefused : goal.returns-in-BookRefused
unfolding words difference_values
returns-in-BookRefused c = search difference_form

pub returns-in-ReplyRefused : goal.returns-in-ReplyRefused
unfolding words difference_values
returns-in-ReplyRefused c = search difference_form

pub returns-in-SeveralSets : goal.returns-in-SeveralSets
unfolding words difference_values
returns-in-SeveralSets c = search difference_form

pub returns-in-SetNotOffered : goal.returns-in-SetNotOffered
unfolding words difference_values
returns-in-SetNotOffered c = search difference_form

pub returns-in-Protocols : goal.returns-in-Protocols
unfolding words difference_values
returns-in-Protocols c = search difference_form

pub returns-in-Order : goal.returns-in-Order
unfolding words difference_values
returns-in-Order c = search difference_form

pub returns-in-SeveralTransforms : goal.returns-in-SeveralTransforms
unfolding words difference_values
returns-in-SeveralTransforms c = search difference_form

pub returns-in-TransformNotOffered : goal.returns-in-TransformNotOffered
unfolding words difference_values
returns-in-TransformNotOffered c = search difference_form

pub returns-in-Id : goal.returns-in-Id
unfolding words difference_values
returns-in-Id c = search difference_form

pub returns-in-Attributes : goal.returns-in-Attributes
unfolding words difference_values
returns-in-Attributes c = search difference_form

pub returns-in-OtherSet : goal.returns-in-OtherSet
unfolding words difference_values
returns-in-OtherSet c = search difference_form

pub returns-in-OtherTransform : goal.returns-in-OtherTransform
unfolding words difference_values
returns-in-OtherTransform c = search difference_form

pub returns-in-NothingChosen : goal.returns-in-NothingChosen
unfolding words difference_values
returns-in-NothingChosen c = search difference_form
