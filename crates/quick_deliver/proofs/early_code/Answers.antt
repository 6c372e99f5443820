use Rattle.quick_deliver.proofs.Ways.{early_small, early_hash, early_up, early_passed}
use Rattle.quick_deliver.proofs.early_code.Goals as goal

pub returns-then-tight : goal.returns-then-tight
returns-then-tight c = search early_small

pub returns-then-not-holds : goal.returns-then-not-holds
returns-then-not-holds c = search early_hash

pub returns-then-is_given_up : goal.returns-then-is_given_up
returns-then-is_given_up c = search early_up

pub returns : goal.returns
returns c = search early_passed
