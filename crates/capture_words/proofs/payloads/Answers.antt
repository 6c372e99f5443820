use mathlib.Core.Path.{refl}
use native.Mathlib.Omega.{arith}
use Rattle.capture_words.proofs.Ways.{payloads-start, payloads-on, payloads-end}
use borrow.Author.Rules.{rules}
use Rattle.capture_words.proofs.payloads.Goals as goal

pub loop-k-init : goal.loop-k-init
loop-k-init c = (refl, payloads-start _ _ _ (omega arith))

pub loop-k-preserved : goal.loop-k-preserved
loop-k-preserved c = let before = c.loop-k.invariant.1 in
    (search rules, payloads-on _ _ _ _ _ _ _ _ _ before c.payload_at.ensures c.payload-said.ensures)

pub returns : goal.returns
returns c = search payloads-end
