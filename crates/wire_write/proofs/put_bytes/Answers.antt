use Prim.Native.Nat.{ℕ, ◌+◌}
use mathlib.Core.Path.{◌≡◌, refl, sym, ap, ◌∙◌}
use native.Mathlib.Omega.{arith}
use lib.ListN.{length-set}
use Rattle.wire_write.specs.Put.{paste}
use Rattle.wire_write.proofs.Ways.{paste-begin, paste-on, paste-done}
use Rattle.wire_write.proofs.put_bytes.Goals as goal

pub loop-i-init : goal.loop-i-init
loop-i-init c =
    let first : c.min-from.result + 0 ≡ c.min-from.result = omega arith in
    (refl, rw first (paste-begin c.args.buffer.now c.args.bytes.now c.args.at c.min-from.result c.min-from.ensures))

pub loop-i-preserved : goal.loop-i-preserved
loop-i-preserved c =
    let next : c.min-from.result + (c.loop-i.i + 1) ≡ c.min-from.result + c.loop-i.i + 1 = omega arith in
    (length-set _ _ _ ∙ c.loop-i.invariant.0, rw next (paste-on c.loop-i.buffer c.args.bytes.now _ c.loop-i.i (c.min-from.result + c.loop-i.i) c.loop-i.invariant.1 (omega (arith, c.min-n.ensures, c.loop-i-test.true))))

pub returns : goal.returns
returns c =
    paste-done _ _ _ _ _ c.loop-i.invariant.1 c.min-n.result c.min-from.result _ refl (sym c.loop-i.invariant.0) c.min-n.ensures c.loop-i-test.false
