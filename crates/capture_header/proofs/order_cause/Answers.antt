use Rattle.capture_header.proofs.Ways.{cause_version, cause_nothing, cause_check_sequences, cause_link_type}
use Rattle.capture_header.proofs.order_cause.Goals as goal

pub returns-then-not-major-minor : goal.returns-then-not-major-minor
returns-then-not-major-minor c = search cause_version

pub returns-then-link-eq1 : goal.returns-then-link-eq1
returns-then-link-eq1 c = search cause_nothing

pub returns-then-link-eq1-2 : goal.returns-then-link-eq1-2
returns-then-link-eq1-2 c = search cause_check_sequences

pub returns : goal.returns
returns c = search cause_link_type
