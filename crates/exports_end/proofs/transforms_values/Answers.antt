use Rattle.exports_end.proofs.Ways.{values_one, values-two}
use Rattle.exports_end.proofs.transforms_values.Goals as goal

pub returns-in-One : goal.returns-in-One
returns-in-One c = search values_one

pub returns-in-Two : goal.returns-in-Two
returns-in-Two c = search values-two
