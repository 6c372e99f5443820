use Rattle.capture_words.proofs.Ways.{said-three}
use Rattle.capture_words.proofs.chosen.Goals as goal

pub returns : goal.returns
returns c = search said-three
