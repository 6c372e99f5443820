-- Lawful replies: no two answers of one type have the same number and values.
use Rattle.std.specs.Prelude.{◌≡◌, refl, length, eqb}
use Rattle.std.proofs.Common.{sym, ap, ◌∙◌}
use Rattle.wire_read.specs.Tests.{if◌then◌otherwise◌}
use Rattle.wire_read.specs.Answer.{Answer}
use Rattle.policy_lawful.specs.Difference.{Difference}
use Rattle.policy_lawful.specs.Difference.{Nothing, OfferRefused, BookRefused, ReplyRefused, SeveralSets, SetNotOffered, Protocols, Order, SeveralTransforms, TransformNotOffered, Id, Attributes, OtherSet, OtherTransform, NothingChosen}
use Rattle.policy_lawful.specs.Difference.{Lawfulness}
use Rattle.policy_lawful.specs.Difference.{Refused, Lawful}
use Rattle.policy_lawful.specs.Lawful.{lawful_answer, difference_values, difference_answer}
use Rattle.promises.specs.WhyAnswers.{value, is_kind}

-- The answer that a number and values stand for, of each type; it is the answer that they come from.

abbrev lawful_meant : (a : Answer) → Lawfulness
lawful_meant a = if eqb (length a.values) 0 then Refused a.number otherwise Lawful

lawful-meant : (x : Lawfulness) → lawful_meant (lawful_answer x) ≡ x
unfolding lawful_answer
lawful-meant (Refused number) = refl
lawful-meant Lawful = refl

pub lawful-own : (x y : Lawfulness) → lawful_answer x ≡ lawful_answer y → x ≡ y
lawful-own x y h = sym (lawful-meant x) ∙ ap lawful_meant h ∙ lawful-meant y

abbrev difference_meant : (a : Answer) → Difference
difference_meant a =
    if is_kind a 0 1 then Nothing
    otherwise if is_kind a 0 2 then OfferRefused (value a 1)
    otherwise if is_kind a 0 3 then BookRefused (value a 1)
    otherwise if is_kind a 0 4 then ReplyRefused (value a 1)
    otherwise if is_kind a 0 5 then SeveralSets (value a 1)
    otherwise if is_kind a 0 6 then SetNotOffered (record { 0 = value a 1 })
    otherwise if is_kind a 0 7 then Protocols
    otherwise if is_kind a 0 8 then Order
    otherwise if is_kind a 0 9 then SeveralTransforms (value a 1) (value a 2)
    otherwise if is_kind a 0 10 then TransformNotOffered (value a 1) (record { 0 = value a 2 })
    otherwise if is_kind a 0 11 then Id (value a 1) (record { 0 = value a 2 }) (value a 3) (value a 4)
    otherwise if is_kind a 0 12 then Attributes (value a 1) (record { 0 = value a 2 })
    otherwise if is_kind a 0 13 then OtherSet (record { 0 = value a 1 }) (record { 0 = value a 2 })
    otherwise if is_kind a 0 14 then OtherTransform (value a 1) (record { 0 = value a 2 }) (record { 0 = value a 3 })
    otherwise NothingChosen

difference_meant_lem : (x : Difference) → difference_meant (difference_answer x) ≡ x
unfolding difference_answer difference_values
difference_meant_lem Nothing = refl
difference_meant_lem (OfferRefused number) = refl
difference_meant_lem (BookRefused number) = refl
difference_meant_lem (ReplyRefused number) = refl
difference_meant_lem (SeveralSets count) = refl
difference_meant_lem (SetNotOffered number) = refl
difference_meant_lem Protocols = refl
difference_meant_lem Order = refl
difference_meant_lem (SeveralTransforms protocol count) = refl
difference_meant_lem (TransformNotOffered protocol number) = refl
difference_meant_lem (Id protocol number found offered) = refl
difference_meant_lem (Attributes protocol number) = refl
difference_meant_lem (OtherSet found chosen) = refl
difference_meant_lem (OtherTransform protocol found chosen) = refl
difference_meant_lem NothingChosen = refl

pub difference_own : (x y : Difference) → difference_answer x ≡ difference_answer y → x ≡ y
difference_own x y h = sym (difference_meant_lem x) ∙ ap difference_meant h ∙ difference_meant_lem y
