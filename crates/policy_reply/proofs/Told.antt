-- What is told of an outcome is told of one answer only; and what a `?` hands on.
use Rattle.std.specs.Prelude.{ℕ, ◌≡◌, refl, Result, Ok, Err}
use Rattle.std.specs.Result.{IsErrAnd}
use Rattle.std.proofs.Common.{sym, ap, ◌∙◌}
use Rattle.refusal.specs.declared.Refusal.{Refusal}
use Rattle.refusal.specs.Numbers.{number}
use Rattle.refusal.proofs.Laws.{refusal_of, refusal_of-number}
use Rattle.policy_reply.specs.Reply.{Outcome, Refused, Written, outcome_told}

pub outcome_told-handed_on : (answer : Result ℕ Refusal) (given : Refusal) → IsErrAnd answer (λ refusal. refusal ≡ given) → outcome_told answer ≡ Refused (number given)
outcome_told-handed_on (Ok size) given same = absurd same
outcome_told-handed_on (Err refusal) given same = ap (λ r. Refused (number r)) same

-- the answer of which this is told
abbrev answer_of : (told : Outcome) → Result ℕ Refusal
answer_of (Refused n) = Err (refusal_of n)
answer_of (Written size) = Ok size

answer_of-told : (answer : Result ℕ Refusal) → answer_of (outcome_told answer) ≡ answer
answer_of-told (Ok size) = refl
answer_of-told (Err refusal) = ap Err (refusal_of-number refusal)

pub outcome_told-injective : (x y : Result ℕ Refusal) → outcome_told x ≡ outcome_told y → x ≡ y
outcome_told-injective x y same = sym (answer_of-told x) ∙ ap answer_of same ∙ answer_of-told y

-- also beside what a buffer holds then
pub outcome_told-beside : {A : Type 0} (x y : Result ℕ Refusal) (a b : A) → ◌≡◌ {A = Outcome × A} (outcome_told x, a) (outcome_told y, b) →
    ◌≡◌ {A = Result ℕ Refusal × A} (x, a) (y, b)
outcome_told-beside {A} x y a b same =
    let answer : x ≡ y = outcome_told-injective x y (ap (λ (p : Outcome × A). p.0) same) in
    let beside : a ≡ b = ap (λ (p : Outcome × A). p.1) same in
    cc
