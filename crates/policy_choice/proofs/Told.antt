-- What is told of a choice is told of one answer only.
use Rattle.std.specs.Prelude.{◌≡◌, refl, Result, Ok, Err}
use Rattle.std.proofs.Common.{sym, ap, ◌∙◌}
use Rattle.refusal.specs.declared.Refusal.{Refusal}
use Rattle.refusal.proofs.Laws.{refusal_of, refusal_of-number}
use Rattle.policy_choice.specs.declared.Choice.{Choice as Found}
use Rattle.policy_choice.specs.Choice.{Choice, Refused, Chosen, choice_told}

-- the answer of which this is told
abbrev answer_of : (told : Choice) → Result Found Refusal
answer_of (Refused n) = Err (refusal_of n)
answer_of (Chosen set line transforms) = Ok (record { set = set; line = line; transforms = transforms })

answer_of-told : (answer : Result Found Refusal) → answer_of (choice_told answer) ≡ answer
answer_of-told (Ok found) = refl
answer_of-told (Err refusal) = ap Err (refusal_of-number refusal)

pub choice_told-injective : (x y : Result Found Refusal) → choice_told x ≡ choice_told y → x ≡ y
choice_told-injective x y same = sym (answer_of-told x) ∙ ap answer_of same ∙ answer_of-told y
