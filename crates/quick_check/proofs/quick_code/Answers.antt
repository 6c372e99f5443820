use Rattle.quick_check.proofs.Ways.{quick-exchange, quick_flags, quick-begins, quick-cookies, quick-id, quick-shape, quick-long, quick_passed}
use Rattle.quick_check.proofs.quick_code.Goals as goal

pub returns-then-exchange-ne32 : goal.returns-then-exchange-ne32
returns-then-exchange-ne32 c = search quick-exchange

pub returns-then-byte-ne1 : goal.returns-then-byte-ne1
returns-then-byte-ne1 c = search quick_flags

pub returns-then-is_initiator-idle : goal.returns-then-is_initiator-idle
returns-then-is_initiator-idle c = search quick-begins

pub returns-then-cookies_not_own : goal.returns-then-cookies_not_own
returns-then-cookies_not_own c = search quick-cookies

pub returns-then-idle-be32 : goal.returns-then-idle-be32
returns-then-idle-be32 c = search quick-id

pub returns-then-shape-eq0 : goal.returns-then-shape-eq0
returns-then-shape-eq0 c = search quick-shape

pub returns-then-m-gt2048 : goal.returns-then-m-gt2048
returns-then-m-gt2048 c = search quick-long

pub returns : goal.returns
returns c = search quick_passed
