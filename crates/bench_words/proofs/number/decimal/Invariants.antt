-- Invariant: what the digits so far spell, which is at most the most that is lawful, so ten times it, and a digit, fits a u64.
use Prim.Native.Nat.{◌≤◌}
use Rattle.bench_words.proofs.NumberLaws.{Counting}
use Rattle.bench_words.proofs.number.decimal.Given as goal

abbrev pub invariant-loop-digit : goal.invariant-loop-digit
invariant-loop-digit l = (l.n ≤ l.fn.most) × Counting l.fn.word l.digit-index l.n
