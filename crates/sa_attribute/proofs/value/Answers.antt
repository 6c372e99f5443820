use Rattle.sa_attribute.proofs.Ways.{value-fixed, value_none, value-one, value-two, value-three, value_four}
use Rattle.sa_attribute.proofs.value.Goals as goal

pub returns-then-sent_fixed : goal.returns-then-sent_fixed
returns-then-sent_fixed c = search value-fixed

pub returns-in-0 : goal.returns-in-0
returns-in-0 c = search value_none

pub returns-in-1 : goal.returns-in-1
returns-in-1 c = search value-one

pub returns-in-2 : goal.returns-in-2
returns-in-2 c = search value-two

pub returns-in-3 : goal.returns-in-3
returns-in-3 c = search value-three

pub returns-in_default : goal.returns-in_default
returns-in_default c = search value_four
