use Rattle.capture_words.proofs.Ways.{address_said}
use Rattle.capture_words.proofs.address.Goals as goal

pub returns : goal.returns
returns c = search address_said
