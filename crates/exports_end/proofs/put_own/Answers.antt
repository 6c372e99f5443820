use Rattle.exports_end.proofs.Ways.{own-written}
use Rattle.exports_end.proofs.put_own.Goals as goal

pub returns : goal.returns
returns c = own-written _ _ _ _ _ _ _ _ _ _ _ c.role_number.ensures c.put_bytes-arg-5-1.given c.put_bytes.ensures c.put_be16.ensures
    c.put_be64.ensures c.put_be64-2.ensures c.put_be32.ensures c.put_be32-2.ensures c.put_bytes-2.ensures c.put_bytes-3.ensures
