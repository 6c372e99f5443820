use Rattle.capture_words.proofs.Ways.{ah-said, esp-said}
use Rattle.capture_words.proofs.named.Goals as goal

pub returns-then-protocol-eq2 : goal.returns-then-protocol-eq2
returns-then-protocol-eq2 c = search ah-said

pub returns-else-protocol-eq2 : goal.returns-else-protocol-eq2
returns-else-protocol-eq2 c = search esp-said
