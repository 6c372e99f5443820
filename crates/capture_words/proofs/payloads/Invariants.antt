-- Invariant: the payloads before k are said, behind what was said before the loop.
use mathlib.Core.Path.{◌≡◌}
use lib.ListN.{length}
use Rattle.bench_words.specs.Say.{Said}
use Rattle.capture_words.specs.Texts.{payloads_text}
use Rattle.capture_words.proofs.payloads.Given as goal

abbrev pub invariant-loop-k : goal.invariant-loop-k
invariant-loop-k l = (length l.out ≡ length l.initial.out) × Said l.initial.out l.initial.said (payloads_text l.k l.m) l.said l.out
