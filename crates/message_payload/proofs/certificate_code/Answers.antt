use Rattle.message_payload.proofs.Ways.{certificate_empty, certificate_known, certificate_unknown}
use Rattle.message_payload.proofs.certificate_code.Goals as goal

pub returns-then-body-eq0 : goal.returns-then-body-eq0
returns-then-body-eq0 c = search certificate_empty

pub returns-then-encoding : goal.returns-then-encoding
returns-then-encoding c = search certificate_known

pub returns-else-encoding : goal.returns-else-encoding
returns-else-encoding c = search certificate_unknown
