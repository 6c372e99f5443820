use Rattle.bench_words.proofs.SayLaws.{one-said, two_said}
use Rattle.bench_words.proofs.say.transforms.Goals as goal

pub returns-in-One : goal.returns-in-One
returns-in-One c = search one-said

pub returns-in-Two : goal.returns-in-Two
returns-in-Two c = search two_said
