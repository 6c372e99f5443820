use mathlib.Core.Path.{ap, ◌∙◌}
use mathlib.Core.List.{List, ◌∷◌}
use Prim.Native.Nat.{ℕ}
use Rattle.wire_write.specs.Put.{head, paste}
use Rattle.wire_write.proofs.Ways.{low_bytes}
use Rattle.wire_write.proofs.put_head.Goals as goal

pub returns : goal.returns
unfolding head
returns c =
    c.put_bytes.ensures
    ∙ ap (λ (both : List ℕ). paste c.args.buffer.now c.args.at (c.args.next ∷ 0 ∷ both)) (low_bytes c.args.size c.to_be_bytes.result c.to_be_bytes.ensures)
