use Rattle.quick_deliver.proofs.Ways.{half_again, half_opens, half_refused}
use Rattle.quick_deliver.proofs.at_half.Goals as goal

pub returns-then-alike : goal.returns-then-alike
returns-then-alike c = search half_again

pub returns-then-found-eq1 : goal.returns-then-found-eq1
returns-then-found-eq1 c = search half_opens

pub returns : goal.returns
returns c = search half_refused
