use Rattle.std.specs.Prelude.{refl}
use Rattle.policy_choice.proofs.ChoiceWays.{choice-book, choice-message, choice-empty, choice-made}
use Rattle.policy_choice.proofs.choose.choose.Goals as goal

pub returns-in_default : goal.returns-in_default
returns-in_default c = choice-book _ _ _ c.in_default.ensures _ refl

pub returns-in_default-read : goal.returns-in_default-read
returns-in_default-read c = let told = rw c.unwrap_err.ensures at c.read-read.ensures in
    choice-message _ _ _ c.in-Ok.ensures _ _ refl _ told _ refl

pub returns-then-body-eq0 : goal.returns-then-body-eq0
returns-then-body-eq0 c =
    choice-empty _ _ _ c.in-Ok.ensures _ _ refl _ c.in-Ok-read.ensures _ _ refl _ c.sa_of-body.ensures c.if-body-eq0.true

pub returns : goal.returns
returns c =
    choice-made _ _ _ c.in-Ok.ensures _ _ refl _ c.in-Ok-read.ensures _ _ refl _ c.sa_of-body.ensures c.if-body-eq0.false _ c.choose_from.ensures
