use Rattle.capture_header.proofs.Ways.{cause_short, cause_pcapng, cause_nanoseconds, cause_big, cause_little, cause_none}
use Rattle.capture_header.proofs.header_cause.Goals as goal

pub returns-then-s-lt24 : goal.returns-then-s-lt24
returns-then-s-lt24 c = search cause_short

pub returns-then-big-eq-PCAPNG : goal.returns-then-big-eq-PCAPNG
returns-then-big-eq-PCAPNG c = search cause_pcapng

pub returns-then-big-little : goal.returns-then-big-little
returns-then-big-little c = search cause_nanoseconds

pub returns-then-big : goal.returns-then-big
returns-then-big c = search cause_big

pub returns-then-little : goal.returns-then-little
returns-then-little c = search cause_little

pub returns : goal.returns
returns c = search cause_none
