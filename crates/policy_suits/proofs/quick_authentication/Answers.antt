use Rattle.policy_suits.proofs.SuitWays.{authentication-both}
use Rattle.policy_suits.specs.Suits.{quick_authentication}
use Rattle.policy_suits.proofs.quick_authentication.Goals as goal

pub returns-then-protocols-protocol : goal.returns-then-protocols-protocol
unfolding quick_authentication
returns-then-protocols-protocol c = rw c.if-protocols-protocol.true c.nothing_surplus.ensures

pub returns-else-protocols-protocol : goal.returns-else-protocols-protocol
unfolding quick_authentication
returns-else-protocols-protocol c = search authentication-both
