-- Invariant: what is put so far, two digits at a time. Each way out is a law of HexLaws.
use mathlib.Core.Path.{◌≡◌}
use lib.ListN.{length}
use Rattle.std.specs.Slice.Iter.{chunks_rest, chunks_size}
use Rattle.bench_words.proofs.HexLaws.{Going}
use Rattle.bench_words.proofs.hex.decode.Given as goal

abbrev pub invariant-loop-pair : goal.invariant-loop-pair
invariant-loop-pair l =
    (chunks_size l.pair-iterator ≡ 2) × (length l.bytes ≡ length l.initial.bytes)
    × Going l.fn.word l.fn.at l.initial.bytes (chunks_rest l.pair-iterator) l.to l.bytes
