-- Invariant: the bytes before the next are said, behind what was said before the loop.
use mathlib.Core.Path.{◌≡◌}
use lib.ListN.{length, take}
use Rattle.bench_words.specs.Say.{Said, hex_text}
use Rattle.bench_words.proofs.say.bytes.Given as goal

abbrev pub invariant-loop-b : goal.invariant-loop-b
invariant-loop-b l = (length l.out ≡ length l.initial.out) × Said l.initial.out l.initial.said (hex_text (take l.b-index l.fn.bytes)) l.said l.out
