use mathlib.Core.Path.{refl}
use Rattle.quick_shape.proofs.Laws.{shape-found}
use Rattle.quick_check.proofs.Laws.{read_fits}
use Rattle.quick_deliver.proofs.Ways.{deliver_early, deliver-refused, deliver-initiator, deliver-responder}
use Rattle.quick_deliver.proofs.deliver.Goals as goal

pub returns-in-Err : goal.returns-in-Err
returns-in-Err c = let told = c.in-Err.ensures in search deliver_early

pub returns-in-Err-read_code : goal.returns-in-Err-read_code
returns-in-Err-read_code c = let goes = c.in_default.ensures in let told = c.in-Err-read_code.ensures.numbered in search deliver-refused

pub at_initiator-requires : goal.at_initiator-requires
at_initiator-requires c = let reads = c.read-read.ensures in (
  read_fits _ _ reads _ _ _ 0 c.in_default-read_code.ensures.numbered refl,
  shape-found _ _ reads _ _ c.count_of.ensures c.shape-found.ensures,
)

pub returns-then-is_initiator : goal.returns-then-is_initiator
returns-then-is_initiator c = let goes = c.in_default.ensures in let passes = c.in_default-read_code.ensures.numbered in search deliver-initiator

pub at_responder-requires : goal.at_responder-requires
at_responder-requires c = let reads = c.read-read.ensures in (
  read_fits _ _ reads _ _ _ 0 c.in_default-read_code.ensures.numbered refl,
  shape-found _ _ reads _ _ c.count_of.ensures c.shape-found.ensures,
)

pub returns : goal.returns
returns c = let goes = c.in_default.ensures in let passes = c.in_default-read_code.ensures.numbered in search deliver-responder
