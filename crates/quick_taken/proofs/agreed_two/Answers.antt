use Rattle.quick_taken.proofs.Ways.{both_agreed}
use Rattle.quick_taken.proofs.agreed_two.Goals as goal

pub returns : goal.returns
returns c = search both_agreed
