use Rattle.exports_end.proofs.Ways.{agreed_written}
use Rattle.exports_end.proofs.put_agreed.Goals as goal

pub returns : goal.returns
returns c = agreed_written _ _ _ _ _ _ c.transforms_values-values.ensures c.put_bytes.ensures c.put_spis.ensures c.put_spis-2.ensures
