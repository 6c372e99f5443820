use Rattle.quick_begin.proofs.Ways.{begin-small, begin-up, begin-other, begin-id, begin_identities, begin-lines, begin_passed}
use Rattle.quick_begin.proofs.begin_code.Goals as goal

pub returns-then-tight : goal.returns-then-tight
returns-then-tight c = search begin-small

pub returns-then-is_given_up : goal.returns-then-is_given_up
returns-then-is_given_up c = search begin-up

pub returns-then-not-is_initiator-is_idle : goal.returns-then-not-is_initiator-is_idle
returns-then-not-is_initiator-is_idle c = search begin-other

pub returns-then-id-eq0 : goal.returns-then-id-eq0
returns-then-id-eq0 c = search begin-id

pub returns-then-identities_wrong : goal.returns-then-identities_wrong
returns-then-identities_wrong c = search begin_identities

pub returns-then-lines-eq0 : goal.returns-then-lines-eq0
returns-then-lines-eq0 c = search begin-lines

pub returns : goal.returns
returns c = search begin_passed
