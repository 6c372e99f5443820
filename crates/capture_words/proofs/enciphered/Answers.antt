use Rattle.capture_words.proofs.Ways.{enciphered_said}
use Rattle.capture_words.proofs.enciphered.Goals as goal

pub returns : goal.returns
returns c = search enciphered_said
