use Rattle.quick_deliver.proofs.Ways.{identity_there, identity_none}
use Rattle.quick_deliver.proofs.identity_at.Goals as goal

pub returns-then-found-eq5 : goal.returns-then-found-eq5
returns-then-found-eq5 c = search identity_there

pub returns : goal.returns
returns c = search identity_none
