use Rattle.identity.proofs.Ways.{identity_done, identity_wrong}
use Rattle.identity.proofs.identity_code.Goals as goal

pub returns-then-s-lawful : goal.returns-then-s-lawful
returns-then-s-lawful c = search identity_done

pub returns-else-s-lawful : goal.returns-else-s-lawful
returns-else-s-lawful c = search identity_wrong
