use Rattle.capture_frame.proofs.Ways.{ipv4_no_header, ipv4-other, header_in_total, ipv4-short, ipv4_fragment, ipv4-packet}
use Rattle.capture_frame.proofs.ipv4.Goals as goal

pub returns-then-s-at : goal.returns-then-s-at
returns-then-s-at c = search ipv4_no_header

pub returns-then-not_ipv4 : goal.returns-then-not_ipv4
returns-then-not_ipv4 c = search ipv4-other

pub returns-then-s-at-2 : goal.returns-then-s-at-2
returns-then-s-at-2 c = search ipv4-short

pub returns-then-fragmented : goal.returns-then-fragmented
returns-then-fragmented c = search ipv4_fragment

pub overflow_sub-total : goal.overflow_sub-total
overflow_sub-total c = search header_in_total

pub returns : goal.returns
returns c = search ipv4-packet
