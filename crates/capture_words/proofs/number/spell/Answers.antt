use native.Mathlib.Omega.{arith}
use lib.ListN.{length-set}
use Rattle.capture_words.proofs.Decimal.{spelled-start, spelled-on, spelled-end}
use Rattle.capture_words.proofs.number.spell.Goals as goal

pub loop-rest-init : goal.loop-rest-init
loop-rest-init c = (omega arith, omega arith, c.requires, omega arith, search spelled-start)

pub loop-rest-preserved : goal.loop-rest-preserved
loop-rest-preserved c = search spelled-on

pub bounds-text-at-3 : goal.bounds-text-at-3
bounds-text-at-3 c = simp length-set (omega arith)

pub shape_of-text : goal.shape_of-text
shape_of-text c = simp length-set (omega arith)

pub returns : goal.returns
returns c = record { upper_bound = omega arith; text_after = search spelled-end }
