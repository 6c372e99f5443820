use Rattle.std.proofs.Common.{ap}
use Rattle.bench_words.specs.Say.{refused_text}
use Rattle.capture_words.specs.Texts.{choice_text}
use Rattle.capture_words.proofs.Ways.{choice-said}
use Rattle.capture_words.proofs.choice.Goals as goal

pub returns-in-Err : goal.returns-in-Err
unfolding choice_text
returns-in-Err g c = let same = ap refused_text c.numbered.ensures in search choice-said

pub returns-in-Ok : goal.returns-in-Ok
unfolding choice_text
returns-in-Ok g c = search choice-said
