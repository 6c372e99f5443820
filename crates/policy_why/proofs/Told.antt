-- What is told of an offer or of a cause is told of one answer only; and what a `?` hands on.
use Rattle.std.specs.Prelude.{◌≡◌, refl, Result, Ok, Err}
use Rattle.std.specs.Result.{IsErrAnd}
use Rattle.std.proofs.Common.{sym, ap, ◌∙◌}
use Rattle.refusal.specs.declared.Refusal.{Refusal}
use Rattle.refusal.specs.Numbers.{number}
use Rattle.refusal.proofs.Laws.{refusal_of, refusal_of-number}
use Rattle.message_chain.specs.declared.Message.{Message as Found}
use Rattle.policy_why.specs.Offer.{Offer, offer_told}
use Rattle.policy_why.specs.Offer as offers
use Rattle.policy_why.specs.declared.Why.{Why as Said}
use Rattle.policy_why.specs.declared.Why.TheVariants as said
use Rattle.policy_why.specs.Why.{Why, Refused, NoSuchPlace, Protocols, Transform, why_told}

pub offer_told-handed_on : (answer : Result Found Refusal) (given : Refusal) → IsErrAnd answer (λ refusal. refusal ≡ given) →
    offer_told answer ≡ offers.Refused (number given)
offer_told-handed_on (Ok found) given same = absurd same
offer_told-handed_on (Err refusal) given same = ap (λ r. offers.Refused (number r)) same

pub why_told-handed_on : (answer : Result Said Refusal) (given : Refusal) → IsErrAnd answer (λ refusal. refusal ≡ given) →
    why_told answer ≡ Refused (number given)
why_told-handed_on (Ok found) given same = absurd same
why_told-handed_on (Err refusal) given same = ap (λ r. Refused (number r)) same

-- the answers of which these are told
abbrev offer_of : (told : Offer) → Result Found Refusal
offer_of (offers.Refused n) = Err (refusal_of n)
offer_of (offers.Readable exchange count) = Ok (record { exchange = exchange; count = count })

offer_of-told : (answer : Result Found Refusal) → offer_of (offer_told answer) ≡ answer
offer_of-told (Ok found) = refl
offer_of-told (Err refusal) = ap Err (refusal_of-number refusal)

pub offer_told-injective : (x y : Result Found Refusal) → offer_told x ≡ offer_told y → x ≡ y
offer_told-injective x y same = sym (offer_of-told x) ∙ ap offer_of same ∙ offer_of-told y

abbrev why_of : (told : Why) → Result Said Refusal
why_of (Refused n) = Err (refusal_of n)
why_of NoSuchPlace = Ok said.NoSuchPlace
why_of Protocols = Ok said.Protocols
why_of (Transform cause) = Ok (said.Transform cause)

why_of-told : (answer : Result Said Refusal) → why_of (why_told answer) ≡ answer
why_of-told (Ok said.NoSuchPlace) = refl
why_of-told (Ok said.Protocols) = refl
why_of-told (Ok (said.Transform cause)) = refl
why_of-told (Err refusal) = ap Err (refusal_of-number refusal)

pub why_told-injective : (x y : Result Said Refusal) → why_told x ≡ why_told y → x ≡ y
why_told-injective x y same = sym (why_of-told x) ∙ ap why_of same ∙ why_of-told y
