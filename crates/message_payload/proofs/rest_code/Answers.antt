use Rattle.message_payload.proofs.Ways.{rest-none, rest-long, rest_pad, rest_nonzero}
use Rattle.message_payload.proofs.rest_code.Goals as goal

pub returns-then-rest-eq0 : goal.returns-then-rest-eq0
returns-then-rest-eq0 c = search rest-none

pub returns-then-flags-rest : goal.returns-then-flags-rest
returns-then-flags-rest c = search rest-long

pub returns-then-all_zero : goal.returns-then-all_zero
returns-then-all_zero c = search rest_pad

pub returns-else-all_zero : goal.returns-else-all_zero
returns-else-all_zero c = search rest_nonzero
