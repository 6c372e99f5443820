use Rattle.exports_end.proofs.Ways.{values-alone, values-both}
use Rattle.exports_end.proofs.spis_values.Goals as goal

pub returns-in-Alone : goal.returns-in-Alone
returns-in-Alone c = search values-alone

pub returns-in-Both : goal.returns-in-Both
returns-in-Both c = search values-both
