use Rattle.quick_agreed.proofs.Ways.{spis_alone, spis_both}
use Rattle.quick_agreed.proofs.spis_of.Goals as goal

pub returns-then-proposal_count-eq1 : goal.returns-then-proposal_count-eq1
returns-then-proposal_count-eq1 c = search spis_alone

pub returns : goal.returns
returns c = search spis_both
