-- What is told of a reply is told of one answer only.
use Rattle.std.specs.Prelude.{◌≡◌, refl, Option, None, Some, Result, Ok, Err}
use Rattle.std.proofs.Common.{sym, ap, ◌∙◌}
use Rattle.refusal.specs.declared.Refusal.{Refusal}
use Rattle.refusal.proofs.Laws.{refusal_of, refusal_of-number}
use Rattle.policy_lawful.specs.declared.Difference.{Difference as Found}
use Rattle.policy_lawful.specs.declared.Difference.TheVariants as found
use Rattle.policy_lawful.specs.Difference.{Difference, Lawfulness, Refused, Lawful, Nothing, OfferRefused, BookRefused, ReplyRefused, SeveralSets, SetNotOffered, Protocols, Order, SeveralTransforms, TransformNotOffered, Id, Attributes, OtherSet, OtherTransform, NothingChosen, difference_told, lawful_told}

-- the answers of which these are told
abbrev difference_of : (told : Difference) → Option Found
difference_of Nothing = None
difference_of (OfferRefused n) = Some (found.OfferRefused (refusal_of n))
difference_of (BookRefused n) = Some (found.BookRefused (refusal_of n))
difference_of (ReplyRefused n) = Some (found.ReplyRefused (refusal_of n))
difference_of (SeveralSets count) = Some (found.SeveralSets count)
difference_of (SetNotOffered number) = Some (found.SetNotOffered number)
difference_of Protocols = Some found.Protocols
difference_of Order = Some found.Order
difference_of (SeveralTransforms protocol count) = Some (found.SeveralTransforms protocol count)
difference_of (TransformNotOffered protocol number) = Some (found.TransformNotOffered protocol number)
difference_of (Id protocol number its offered) = Some (found.Id protocol number its offered)
difference_of (Attributes protocol number) = Some (found.Attributes protocol number)
difference_of (OtherSet its chosen) = Some (found.OtherSet its chosen)
difference_of (OtherTransform protocol its chosen) = Some (found.OtherTransform protocol its chosen)
difference_of NothingChosen = Some found.NothingChosen

difference_of-told : (answer : Option Found) → difference_of (difference_told answer) ≡ answer
difference_of-told None = refl
difference_of-told (Some (found.OfferRefused refusal)) = ap (λ r. Some (found.OfferRefused r)) (refusal_of-number refusal)
difference_of-told (Some (found.BookRefused refusal)) = ap (λ r. Some (found.BookRefused r)) (refusal_of-number refusal)
difference_of-told (Some (found.ReplyRefused refusal)) = ap (λ r. Some (found.ReplyRefused r)) (refusal_of-number refusal)
difference_of-told (Some (found.SeveralSets count)) = refl
difference_of-told (Some (found.SetNotOffered number)) = refl
difference_of-told (Some found.Protocols) = refl
difference_of-told (Some found.Order) = refl
difference_of-told (Some (found.SeveralTransforms protocol count)) = refl
difference_of-told (Some (found.TransformNotOffered protocol number)) = refl
difference_of-told (Some (found.Id protocol number its offered)) = refl
difference_of-told (Some (found.Attributes protocol number)) = refl
difference_of-told (Some (found.OtherSet its chosen)) = refl
difference_of-told (Some (found.OtherTransform protocol its chosen)) = refl
difference_of-told (Some found.NothingChosen) = refl

pub difference_told-injective : (x y : Option Found) → difference_told x ≡ difference_told y → x ≡ y
difference_told-injective x y same = sym (difference_of-told x) ∙ ap difference_of same ∙ difference_of-told y

abbrev lawful_of : (told : Lawfulness) → Result Unit Refusal
lawful_of (Refused n) = Err (refusal_of n)
lawful_of Lawful = Ok tt

lawful_of-told : (answer : Result Unit Refusal) → lawful_of (lawful_told answer) ≡ answer
lawful_of-told (Ok passed) = refl
lawful_of-told (Err refusal) = ap Err (refusal_of-number refusal)

pub lawful_told-injective : (x y : Result Unit Refusal) → lawful_told x ≡ lawful_told y → x ≡ y
lawful_told-injective x y same = sym (lawful_of-told x) ∙ ap lawful_of same ∙ lawful_of-told y
