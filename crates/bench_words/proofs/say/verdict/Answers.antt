use Rattle.bench_words.proofs.SayLaws.{accepted-said, refused-said}
use Rattle.bench_words.proofs.say.verdict.Goals as goal

pub returns-in-Ok : goal.returns-in-Ok
returns-in-Ok g c = search accepted-said

pub returns-in-Err : goal.returns-in-Err
returns-in-Err g c = search refused-said
