use mathlib.Core.Path.{refl}
use native.Mathlib.Omega.{arith}
use Rattle.bench_words.proofs.HexLaws.{told_value, told_none, value-decimal, value_upper, value_lower, value_below, value-between, value_middle, value_above}
use Rattle.bench_words.proofs.hex.value.Goals as goal

pub returns-in-48-to-57 : goal.returns-in-48-to-57
returns-in-48-to-57 c = told_value _ _ (value-decimal _ _ (omega arith) (omega arith) refl) (omega arith)

pub returns-in-65-to-70 : goal.returns-in-65-to-70
returns-in-65-to-70 c = told_value _ _ (value_upper _ _ (omega arith) (omega arith) (omega arith)) (omega arith)

pub returns-in-97-to-102 : goal.returns-in-97-to-102
returns-in-97-to-102 c = told_value _ _ (value_lower _ _ (omega arith) (omega arith) (omega arith)) (omega arith)

pub returns-in_default : goal.returns-in_default
returns-in_default c = told_none _ (value_below _ (omega arith))

pub returns-in_default-2 : goal.returns-in_default-2
returns-in_default-2 c = told_none _ (value-between _ (omega arith) (omega arith))

pub returns-in_default-3 : goal.returns-in_default-3
returns-in_default-3 c = told_none _ (value_middle _ (omega arith) (omega arith))

pub returns-in_default-4 : goal.returns-in_default-4
returns-in_default-4 c = told_none _ (value_above _ (omega arith))
