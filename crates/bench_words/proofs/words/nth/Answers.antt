use mathlib.Core.Path.{ap}
use native.Mathlib.Omega.{arith}
use Rattle.bench_words.specs.Words.{word_of}
use Rattle.bench_words.proofs.WordLaws.{nth_on, nth_end}
use Rattle.bench_words.proofs.words.nth.Goals as goal

pub loop-init : goal.loop-init
loop-init c = (omega arith, ap (word_of _) (omega arith))

pub loop-preserved : goal.loop-preserved
loop-preserved c = (omega arith, search nth_on)

pub returns : goal.returns
returns c = search nth_end
