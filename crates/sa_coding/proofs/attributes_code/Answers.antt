use Prim.Native.Nat.{◌+◌, ◌≤◌}
use mathlib.Core.Path.{refl}
use Rattle.std.proofs.Common.{sym, ◌∙◌}
use Rattle.refusal.proofs.Laws.{number-refuses, coded-handed_on}
use native.Mathlib.Omega.{arith}
use lib.ListN.{length}
use Rattle.sa_coding.specs.Coding.{attributes_code}
use Rattle.sa_coding.proofs.Ways.{attributes_unpaired, attributes-end, attributes-many, attributes-refused, attributes-within, attributes-on}
use Rattle.sa_coding.proofs.attributes_code.Goals as goal

pub loop-at-init : goal.loop-at-init
unfolding attributes_code
loop-at-init c = refl

pub returns-then-left-eq0 : goal.returns-then-left-eq0
unfolding attributes_code
returns-then-left-eq0 c = search attributes-many

pub returns-in_err-attribute_code : goal.returns-in_err-attribute_code
unfolding attributes_code
returns-in_err-attribute_code c = let refusal = c.in_err-attribute_code.field-0.0 in let refuses = number-refuses refusal in
    let told = c.in_err-attribute_code.ensures in
    coded-handed_on c.from_residual.result refusal c.from_residual.ensures.1 ∙ search attributes-refused

pub overflow_add-at : goal.overflow_add-at
unfolding attributes_code
overflow_add-at c = let fine = sym c.in_ok-attribute_code.ensures in
    let within : c.loop-at.at + c.attribute_size-at.result ≤ length c.args.s.now = search attributes-within in
    omega arith

pub loop-at-preserved : goal.loop-at-preserved
unfolding attributes_code
loop-at-preserved c = let fine = sym c.in_ok-attribute_code.ensures in search attributes-on

pub returns-then-behindlifetype : goal.returns-then-behindlifetype
unfolding attributes_code
returns-then-behindlifetype c = search attributes_unpaired

pub returns-else-behindlifetype : goal.returns-else-behindlifetype
unfolding attributes_code
returns-else-behindlifetype c = search attributes-end
