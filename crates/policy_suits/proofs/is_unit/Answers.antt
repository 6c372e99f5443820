use Rattle.policy_suits.proofs.SuitWays.{unit_other, unit_value}
use Rattle.policy_suits.proofs.is_unit.Goals as goal

pub returns-then-attribute_type-lifetype : goal.returns-then-attribute_type-lifetype
returns-then-attribute_type-lifetype c = search unit_other

pub returns : goal.returns
returns c = search unit_value
