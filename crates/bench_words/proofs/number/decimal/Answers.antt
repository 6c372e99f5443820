use native.Mathlib.Omega.{arith}
use Rattle.bench_words.proofs.NumberLaws.{counting_start, counting_on, decimal_front, decimal_none, decimal_letter, decimal_above, decimal-end}
use Rattle.bench_words.proofs.number.decimal.Goals as goal

pub returns-then-word-byte : goal.returns-then-word-byte
returns-then-word-byte c = search decimal_front

pub loop-digit-init : goal.loop-digit-init
loop-digit-init c = (omega arith, counting_start _)

pub returns-in_err-digit : goal.returns-in_err-digit
returns-in_err-digit c =
    decimal_none _ _ _ _ 0 c.loop-digit.invariant.1 (omega arith) _ c.from_residual.ensures c.in_err-digit.ensures

pub returns-then-digit-gt9 : goal.returns-then-digit-gt9
returns-then-digit-gt9 c = decimal_letter _ _ _ _ _ c.loop-digit.invariant.1 (omega arith) c.in_ok-digit.ensures c.if-digit-gt9.true

pub returns-then-most-next : goal.returns-then-most-next
returns-then-most-next c =
    decimal_above _ _ _ _ _ c.loop-digit.invariant.1 (omega arith) c.in_ok-digit.ensures c.if-digit-gt9.false c.if-most-next.true

pub loop-digit-preserved : goal.loop-digit-preserved
loop-digit-preserved c = (omega arith, counting_on _ 0 _ _ _ c.loop-digit.invariant.1 (omega arith) c.in_ok-digit.ensures c.if-digit-gt9.false)

pub returns : goal.returns
returns c = search decimal-end
