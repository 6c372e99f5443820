use Rattle.wire_read.proofs.Tests.{told_then, told_else}
use Rattle.message_header.specs.Header.{header_code}
use Rattle.message_header.proofs.header_code.Goals as goal

pub returns-then-length_wrong : goal.returns-then-length_wrong
unfolding header_code
returns-then-length_wrong c = search (told_then, told_else) depth 14 fits 4000

pub returns-then-major_wrong : goal.returns-then-major_wrong
unfolding header_code
returns-then-major_wrong c = search (told_then, told_else) depth 14 fits 4000

pub returns-then-minor_wrong : goal.returns-then-minor_wrong
unfolding header_code
returns-then-minor_wrong c = search (told_then, told_else) depth 14 fits 4000

pub returns-then-exchange_refused : goal.returns-then-exchange_refused
unfolding header_code
returns-then-exchange_refused c = search (told_then, told_else) depth 14 fits 4000

pub returns-then-exchange_unknown : goal.returns-then-exchange_unknown
unfolding header_code
returns-then-exchange_unknown c = search (told_then, told_else) depth 14 fits 4000

pub returns-then-flags_wrong : goal.returns-then-flags_wrong
unfolding header_code
returns-then-flags_wrong c = search (told_then, told_else) depth 14 fits 4000

pub returns-then-cookie_zero : goal.returns-then-cookie_zero
unfolding header_code
returns-then-cookie_zero c = search (told_then, told_else) depth 14 fits 4000

pub returns-then-message_id_wrong : goal.returns-then-message_id_wrong
unfolding header_code
returns-then-message_id_wrong c = search (told_then, told_else) depth 14 fits 4000

pub returns-then-flagged_length_wrong : goal.returns-then-flagged_length_wrong
unfolding header_code
returns-then-flagged_length_wrong c = search (told_then, told_else) depth 14 fits 4000

pub returns-then-no_payload : goal.returns-then-no_payload
unfolding header_code
returns-then-no_payload c = search (told_then, told_else) depth 14 fits 4000

pub returns-else-no_payload : goal.returns-else-no_payload
unfolding header_code
returns-else-no_payload c = search (told_then, told_else) depth 14 fits 4000
