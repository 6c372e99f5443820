use mathlib.Core.Path.{sym, ap, ◌∙◌}
use mathlib.Core.List.{[], ◌∷◌, ◌++◌}
use Prim.Native.Nat.{ℕ, ◌/◌}
use native.Mathlib.Omega.{arith}
use Rattle.bench_words.specs.Say.{decimal_text}
use Rattle.bench_words.proofs.SayLaws.{said-text, said-both, one_digit, more_digits}
use Rattle.bench_words.proofs.say.+digits.Goals as goal

pub returns-then-n-lt10 : goal.returns-then-n-lt10
returns-then-n-lt10 t c =
    let is = c.digit.ensures.decimal (omega arith) in
    said-text _ _ _ _ _ _ c.append.ensures (ap (λ (d : ℕ). d ∷ []) is ∙ sym (one_digit _ c.if-n-lt10.true))

pub returns-else-n-lt10 : goal.returns-else-n-lt10
returns-else-n-lt10 t c =
    let is = c.digit-else-n-lt10.ensures.decimal (omega arith) in
    said-both _ _ _ _ _ _ _ _ _ c.digits-said.ensures c.append-else-n-lt10.ensures
    (ap (λ (d : ℕ). decimal_text (c.args.n / 10) ++ (d ∷ [])) is ∙ sym (more_digits _ c.if-n-lt10.false))
