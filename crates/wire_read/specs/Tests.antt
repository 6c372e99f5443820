-- How a rule that goes by tests is written: the first test that holds decides.
use Rattle.std.specs.Prelude.{Bool, true, false, not, eqb}
use Rattle.wire_read.specs.Wire.{Code}

infixr 10 if◌then◌otherwise◌
abbrev pub if◌then◌otherwise◌ : {A : Type 0} → Bool → A → A → A
if true then a otherwise b = a
if false then a otherwise b = b

-- a check and what comes after it: the first refusal counts
infixr 9 ◌and_then◌
abbrev pub ◌and_then◌ : (code rest : Code) → Code
code and_then rest = if not (eqb code 0) then code otherwise rest
