use Rattle.quick_write.proofs.Ways.{header-written}
use Rattle.quick_write.proofs.put_header.Goals as goal

pub returns : goal.returns
returns c = header-written _ _ _ _ _ _ _ _ _ c.put_be64.ensures c.put_be64-2.ensures c.put_bytes.ensures
    c.put_be32.ensures c.put_be32-2.ensures
