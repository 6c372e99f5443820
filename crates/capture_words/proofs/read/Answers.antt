use Rattle.capture_words.proofs.Ways.{read-said}
use Rattle.capture_words.proofs.read.Goals as goal

pub returns : goal.returns
returns c = search read-said
