use mathlib.Core.Path.{refl}
use native.Mathlib.Omega.{arith}
use borrow.Author.Rules.{rules}
use Rattle.bench_words.proofs.SayLaws.{hex-start, hex-on, hex-end}
use Rattle.bench_words.proofs.say.bytes.Goals as goal

pub loop-b-init : goal.loop-b-init
loop-b-init c = (refl, hex-start _ _ (omega arith))

pub loop-b-preserved : goal.loop-b-preserved
loop-b-preserved c = (search rules, hex-on _ _ _ _ _ _ _ _ _ c.loop-b.invariant.1 (omega arith) refl c.hex_byte-said.ensures)

pub returns : goal.returns
returns c = search hex-end
