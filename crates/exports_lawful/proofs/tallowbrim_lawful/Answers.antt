use Rattle.std.proofs.Common.{◌∙◌}
use Rattle.exports_lawful.proofs.Ways.{same-lawful, given-refused, given-lawful}
use Rattle.exports_lawful.proofs.tallowbrim_lawful.Goals as goal

pub returns-in-Err : goal.returns-in-Err
returns-in-Err c =
    given-refused _ _ _ (c.in-Err.ensures ∙ same-lawful c.args.booked c.args.book _ _ _ c.then_some.ensures) c.from.ensures

pub returns-in-Ok : goal.returns-in-Ok
returns-in-Ok c = given-lawful _ (c.in-Ok.ensures ∙ same-lawful c.args.booked c.args.book _ _ _ c.then_some.ensures)
