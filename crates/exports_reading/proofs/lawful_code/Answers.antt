use Rattle.exports_reading.proofs.NameWays.{code_lawful, code_wrong}
use Rattle.exports_reading.proofs.lawful_code.Goals as goal

pub returns-then-lawful : goal.returns-then-lawful
returns-then-lawful c = search code_lawful

pub returns-else-lawful : goal.returns-else-lawful
returns-else-lawful c = search code_wrong
