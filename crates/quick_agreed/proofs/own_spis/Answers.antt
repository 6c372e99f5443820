use Rattle.quick_agreed.proofs.Ways.{own_alone, own-both}
use Rattle.quick_agreed.proofs.own_spis.Goals as goal

pub returns-then-proposal_count-eq1 : goal.returns-then-proposal_count-eq1
returns-then-proposal_count-eq1 c = search own_alone

pub returns : goal.returns
returns c = search own-both
