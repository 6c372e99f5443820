use mathlib.Core.Logic.{inl, inr}
use mathlib.Core.Path.{◌≡◌, refl, ◌∙◌}
use native.Mathlib.Omega.{arith}
use lib.ListN.{length, length-set}
use Rattle.bench_words.proofs.HexLaws.{going_start, going_on, decode_dash, decode_empty, decode_lone, decode_full, decode_letter, decode_end}
use Rattle.bench_words.proofs.hex.decode.Goals as goal

pub returns-then-equal : goal.returns-then-equal
returns-then-equal c = search decode_dash

pub returns-then-word-eq0 : goal.returns-then-word-eq0
returns-then-word-eq0 c = search decode_empty

pub loop-pair-init : goal.loop-pair-init
loop-pair-init c =
    let new = c.into_iter-pair-iterator.ensures.into_iter_gives in
    let rest = c.chunks-pair-items.ensures.rest in
    (rw new c.chunks-pair-items.ensures.size, refl, rw (new, rest) (going_start _ _ _))

pub returns-in_default : goal.returns-in_default
returns-in_default c =
    let steps = c.in-Some.ensures.steps in
    decode_lone _ _ _ _ _ c.equal.ensures c.if-equal.false _ _ c.loop-pair.invariant.2 _ _ steps.1.0 _ c.loop-pair.invariant.0 steps.1.1 steps.1.2
    c.in_default.len_below

pub returns-in_err-high : goal.returns-in_err-high
returns-in_err-high c =
    decode_letter _ _ _ _ _ c.equal.ensures c.if-equal.false _ _ c.loop-pair.invariant.2 _ _ c.in-Some.ensures.steps.1.0
    c.in-len2.len_at_least c.in-len2.len_below _ c.from_residual.ensures (inl c.in_err-high.ensures)

pub returns-in_err-low : goal.returns-in_err-low
returns-in_err-low c =
    decode_letter _ _ _ _ _ c.equal.ensures c.if-equal.false _ _ c.loop-pair.invariant.2 _ _ c.in-Some.ensures.steps.1.0
    c.in-len2.len_at_least c.in-len2.len_below _ c.from_residual-in_err-low.ensures (inr c.in_err-low.ensures)

pub returns-then-bytes-to : goal.returns-then-bytes-to
returns-then-bytes-to c =
    decode_full _ _ _ _ _ c.equal.ensures c.if-equal.false _ _ c.loop-pair.invariant.2 _ _ c.in-Some.ensures.steps.1.0
    c.in-len2.len_at_least c.in-len2.len_below c.if-bytes-to.true (omega arith)

pub loop-pair-preserved : goal.loop-pair-preserved
loop-pair-preserved c =
    let steps = c.in-Some.ensures.steps in
    let two : length c.in-Some.pair.now ≡ 2 = omega arith in (
      steps.0 ∙ c.loop-pair.invariant.0,
      simp length-set (omega arith),
      going_on _ _ _ _ _ _ c.loop-pair.invariant.2 _ _ steps.1.0 two _ _ c.in_ok-high.ensures c.in_ok-low.ensures c.if-bytes-to.false,
    )

pub returns : goal.returns
returns c =
    let steps = c.in-None.ensures.steps in
    decode_end _ _ _ _ _ c.equal.ensures c.if-equal.false _ _ c.loop-pair.invariant.2 steps.1.0 c.if-word-eq0.false (omega arith)
