use Rattle.exports_record.proofs.Ways.{listed-given}
use Rattle.exports_record.proofs.tallowbrim_record.Goals as goal

pub returns : goal.returns
returns c = search listed-given
