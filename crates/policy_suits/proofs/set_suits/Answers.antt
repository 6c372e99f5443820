use Rattle.policy_suits.proofs.SuitWays.{set_first, set-protocols, set_rest}
use Rattle.policy_suits.proofs.set_suits.Goals as goal

pub returns-then-not-has_transform : goal.returns-then-not-has_transform
returns-then-not-has_transform c = search set_first

pub returns-then-not-protocols_suit : goal.returns-then-not-protocols_suit
returns-then-not-protocols_suit c = search set-protocols

pub returns : goal.returns
returns c = search set_rest
