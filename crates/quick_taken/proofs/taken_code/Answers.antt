use Rattle.quick_taken.proofs.Ways.{taken-other, taken_identities, taken_passed}
use Rattle.quick_taken.proofs.taken_code.Goals as goal

pub returns-then-not-one-set_taken : goal.returns-then-not-one-set_taken
returns-then-not-one-set_taken c = search taken-other

pub returns-then-not-identities_same : goal.returns-then-not-identities_same
returns-then-not-identities_same c = search taken_identities

pub returns : goal.returns
returns c = search taken_passed
