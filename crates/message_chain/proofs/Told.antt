-- What is told of a message's reading is told of one answer only; and what a `?` hands on.
use Rattle.std.specs.Prelude.{◌≡◌, refl, Result, Ok, Err}
use Rattle.std.specs.Result.{IsErrAnd}
use Rattle.std.proofs.Common.{sym, ap, ◌∙◌}
use Rattle.refusal.specs.declared.Refusal.{Refusal}
use Rattle.refusal.specs.Numbers.{number}
use Rattle.refusal.proofs.Laws.{refusal_of, refusal_of-number}
use Rattle.message_chain.specs.declared.Message.{Message as Found}
use Rattle.message_chain.specs.Message.{Message, Refused, Read, message_told}

pub message_told-handed_on : (answer : Result Found Refusal) (given : Refusal) → IsErrAnd answer (λ refusal. refusal ≡ given) → message_told answer ≡ Refused (number given)
message_told-handed_on (Ok found) given same = absurd same
message_told-handed_on (Err refusal) given same = ap (λ r. Refused (number r)) same

-- the answer of which this is told
abbrev answer_of : (told : Message) → Result Found Refusal
answer_of (Refused n) = Err (refusal_of n)
answer_of (Read exchange count) = Ok (record { exchange = exchange; count = count })

answer_of-told : (answer : Result Found Refusal) → answer_of (message_told answer) ≡ answer
answer_of-told (Ok found) = refl
answer_of-told (Err refusal) = ap Err (refusal_of-number refusal)

pub message_told-injective : (x y : Result Found Refusal) → message_told x ≡ message_told y → x ≡ y
message_told-injective x y same = sym (answer_of-told x) ∙ ap answer_of same ∙ answer_of-told y
