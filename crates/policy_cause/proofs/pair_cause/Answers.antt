use Rattle.policy_cause.proofs.CauseWays.{pair-suits, pair-transforms, pair-protocols}
use Rattle.policy_cause.proofs.pair_cause.Goals as goal

pub returns-then-set_suits : goal.returns-then-set_suits
returns-then-set_suits c = search pair-suits

pub returns-then-protocols_suit : goal.returns-then-protocols_suit
returns-then-protocols_suit c = search pair-transforms

pub returns-else-protocols_suit : goal.returns-else-protocols_suit
returns-else-protocols_suit c = search pair-protocols
