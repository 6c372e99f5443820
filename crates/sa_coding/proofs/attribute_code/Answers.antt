use Rattle.sa_coding.proofs.Ways.{code_bounds, code_stands, code_fixed, code_duration, code_done}
use Rattle.sa_coding.proofs.attribute_code.Goals as goal

pub returns-then-out_of_bounds : goal.returns-then-out_of_bounds
returns-then-out_of_bounds c = search code_bounds

pub returns-then-stands_wrong : goal.returns-then-stands_wrong
returns-then-stands_wrong c = search code_stands

pub returns-then-fixed_wrong : goal.returns-then-fixed_wrong
returns-then-fixed_wrong c = search code_fixed

pub returns-then-duration_wrong : goal.returns-then-duration_wrong
returns-then-duration_wrong c = search code_duration

pub returns-else-duration_wrong : goal.returns-else-duration_wrong
returns-else-duration_wrong c = search code_done
