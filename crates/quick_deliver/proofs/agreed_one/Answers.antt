use Rattle.quick_deliver.proofs.Ways.{one_agreed}
use Rattle.quick_deliver.proofs.agreed_one.Goals as goal

pub returns : goal.returns
returns c = search one_agreed
