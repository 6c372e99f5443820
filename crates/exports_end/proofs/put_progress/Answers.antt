use Rattle.exports_end.proofs.Ways.{progress-written}
use Rattle.exports_end.proofs.put_progress.Goals as goal

pub returns : goal.returns
returns c = progress-written _ _ _ _ _ _ _ _ c.state_number.ensures c.put_bytes.ensures c.put_be32.ensures c.put_be16.ensures
    c.put_be16-2.ensures c.put_agreed.ensures
