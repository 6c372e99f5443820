use Rattle.std.proofs.Common.{sym, ◌∙◌}
use Rattle.refusal.proofs.Laws.{number-refuses, coded-handed_on}
use native.Mathlib.Omega.{arith}
use Rattle.sa_transforms.proofs.Ways.{transforms-end, transforms_over, transforms-refused, transforms-on}
use Rattle.sa_transforms.proofs.+transforms_code.Goals as goal

pub returns-then-s-eq0 : goal.returns-then-s-eq0
returns-then-s-eq0 t c = search transforms-end

pub returns-else-s-eq0 : goal.returns-else-s-eq0
returns-else-s-eq0 t c = search transforms_over

pub returns-in_err-transform_code : goal.returns-in_err-transform_code
returns-in_err-transform_code t c = let refusal = c.in_err-transform_code.field-0.0 in let refuses = number-refuses refusal in
    let told = c.in_err-transform_code.ensures in
    coded-handed_on c.from_residual.result refusal c.from_residual.ensures.1 ∙ search transforms-refused

pub transforms_code-requires : goal.transforms_code-requires
transforms_code-requires t c = (omega arith, tt)

pub returns : goal.returns
returns t c = let fine = sym c.in_ok-transform_code.ensures in search transforms-on
