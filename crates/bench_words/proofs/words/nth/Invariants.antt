-- Invariant: the word is as far on from at as it is from so many words on. at is at most one byte behind the line, since find stays within it.
use mathlib.Core.Path.{◌≡◌}
use lib.ListN.{length, drop}
use Prim.Native.Nat.{◌≤◌, ◌+◌, ◌-◌}
use Rattle.bench_words.specs.Words.{word_of}
use Rattle.bench_words.proofs.words.nth.Given as goal

abbrev pub invariant-loop : goal.invariant-loop
invariant-loop l = (l.at ≤ length l.line + 1) × (word_of (drop l.at l.line) (l.k - l.counter) ≡ word_of l.line l.k)
