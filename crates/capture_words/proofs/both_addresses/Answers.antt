use Rattle.capture_words.proofs.Ways.{said-three}
use Rattle.capture_words.proofs.both_addresses.Goals as goal

pub returns : goal.returns
returns c = search said-three
