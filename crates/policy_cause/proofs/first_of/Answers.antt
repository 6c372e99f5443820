use Rattle.std.proofs.Common.{refl, sym, ◌∙◌}
use Rattle.policy_cause.proofs.CauseWays.{first-on, first-here, first-none}
use Rattle.policy_cause.proofs.first_of.Goals as goal

pub loop-attributetype-init : goal.loop-attributetype-init
loop-attributetype-init g c told says = refl

pub returns-then-is_some : goal.returns-then-is_some
returns-then-is_some g c told says =
    let answered = says _ _ _ c.cause-found.ensures in
    first-here told c.args.wanted.now c.loop-attributetype.attributetype-index c.loop-attributetype-test.true _ answered (sym c.is_some.ensures ∙ c.if-is_some.true)
    ∙ sym (c.loop-attributetype.invariant told says)

pub loop-attributetype-preserved : goal.loop-attributetype-preserved
loop-attributetype-preserved g c told says =
    let answered = says _ _ _ c.cause-found.ensures in
    c.loop-attributetype.invariant told says
    ∙ first-on told c.args.wanted.now c.loop-attributetype.attributetype-index c.loop-attributetype-test.true _ answered (sym c.is_some.ensures ∙ c.if-is_some.false)

pub returns : goal.returns
returns g c told says =
    sym (c.loop-attributetype.invariant told says
    ∙ first-none told c.args.wanted.now c.loop-attributetype.attributetype-index c.loop-attributetype-test.false)
