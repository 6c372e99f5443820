use Rattle.std.proofs.Common.{◌∙◌}
use Rattle.exports_lawful.proofs.Ways.{same-difference, difference_given}
use Rattle.exports_lawful.proofs.tallowbrim_difference.Goals as goal

pub returns : goal.returns
returns c =
    difference_given _ _ (c.first_difference.ensures ∙ same-difference c.args.booked c.args.book _ _ _ c.then_some.ensures) _ c.difference_words.ensures _
