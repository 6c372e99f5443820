use native.Mathlib.Omega.{arith}
use Rattle.capture_frame.proofs.Ways.{tag_counts, tag-falls, tag-short, tag-taken, type_ipv4, type_other}
use Rattle.capture_frame.proofs.+ether_type.Goals as goal

pub returns-then-s-at : goal.returns-then-s-at
returns-then-s-at t c = search tag-short

pub overflow_sub-tags : goal.overflow_sub-tags
overflow_sub-tags t c = search tag_counts

pub ether_type-requires : goal.ether_type-requires
ether_type-requires t c = (search tag-falls, omega arith)

pub returns-then-tags-is_tag : goal.returns-then-tags-is_tag
returns-then-tags-is_tag t c = search tag-taken

pub returns-then-kind-eq2048 : goal.returns-then-kind-eq2048
returns-then-kind-eq2048 t c = search type_ipv4

pub returns-else-kind-eq2048 : goal.returns-else-kind-eq2048
returns-else-kind-eq2048 t c = search type_other
