use Prim.Native.Nat.{◌+◌, ◌-◌}
use mathlib.Core.Path.{◌≡◌, refl}
use native.Mathlib.Omega.{arith}
use Rattle.policy_book.proofs.BookWays.{main-none, main-more}
use Rattle.policy_book.proofs.main_lines_lawful.Goals as goal

pub loop-i-init : goal.loop-i-init
loop-i-init c = main-none 0 c.args.book.now refl

pub loop-i-preserved : goal.loop-i-preserved
loop-i-preserved c =
    let last : c.loop-i.i + 1 - 1 ≡ c.loop-i.i = omega arith in
    main-more (c.loop-i.i + 1) c.args.book.now (λ none. omega (arith, none)) c.loop-i.lawful c.main_line_lawful-lawful.result (rw last c.loop-i.invariant) (rw last c.main_line_lawful-lawful.ensures)

pub returns : goal.returns
returns c =
    let all : c.args.n ≡ c.loop-i.i = omega (arith, c.loop-i.auto.i-end, c.loop-i-test.false) in
    rw all c.loop-i.invariant
