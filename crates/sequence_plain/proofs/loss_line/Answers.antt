use mathlib.Core.Path.{refl}
use native.Mathlib.Omega.{arith}
use Rattle.sequence_history.specs.History.{sum}
use Rattle.sequence_plain.proofs.Ways.{count_in, count-out, line-done}
use Rattle.sequence_plain.proofs.loss_line.Goals.{then-is_in, else-is_in}
use Rattle.sequence_plain.proofs.loss_line.Goals as goal

pub loop-looked-init : goal.loop-looked-init
unfolding sum
loop-looked-init c = (omega arith, refl)

pub loop-looked-preserved : goal.loop-looked-preserved
unfolding sum
loop-looked-preserved c =
    elim c.if-is_in.branch [
      | then-is_in w ↦ let is = w.count-is in (omega arith, rw is (search count_in))
      | else-is_in w ↦ let is = w.count-is in (omega arith, rw is (search count-out))
    ]

pub returns : goal.returns
unfolding sum
returns c = search line-done
