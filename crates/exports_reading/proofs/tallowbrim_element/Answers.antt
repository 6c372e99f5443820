use Rattle.exports_reading.proofs.NameWays.{code_said}
use Rattle.exports_reading.proofs.tallowbrim_element.Goals as goal

pub returns : goal.returns
returns c = search code_said
