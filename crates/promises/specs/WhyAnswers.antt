-- Why nothing was chosen: no two answers of one type have the same number and values.
use Rattle.std.specs.Prelude.{ℕ, Option, None, Some, ◌+◌, ◌≡◌, refl, Bool, length, get_or, eqb}
use Rattle.std.proofs.Common.{sym, ap, ◌∙◌}
use Rattle.wire_read.specs.Tests.{if◌then◌otherwise◌}
use Rattle.wire_read.specs.Answer.{Answer}
use Rattle.policy_cause.specs.declared.Cause.{Cause}
use Rattle.policy_cause.specs.declared.Cause.TheVariants as Causes
use Rattle.policy_cause.specs.declared.PairCause.{PairCause}
use Rattle.policy_cause.specs.declared.PairCause.TheVariants as Pairs
use Rattle.policy_cause.specs.Causes.{cause_values, cause_answer, pair_answer}
use Rattle.policy_why.specs.Offer.{Offer}
use Rattle.policy_why.specs.Offer as Offers
use Rattle.policy_why.specs.Why.{Why}
use Rattle.policy_why.specs.Why as Whys
use Rattle.policy_why.specs.Why.{offer_answer, why_answer}

-- The answer that a number and values stand for, of each type; it is the answer that they come from.

abbrev pub value : (a : Answer) (place : ℕ) → ℕ
value a place = get_or a.values place 0

abbrev pub is_kind : (a : Answer) (place kind : ℕ) → Bool
is_kind a place kind = eqb (value a place) kind

-- the cause whose values begin at this place
abbrev cause_meant : (place : ℕ) (a : Answer) → Option Cause
cause_meant place a =
    if is_kind a place 1 then None
    otherwise if is_kind a place 2 then Some (Causes.Id (value a (place + 1)) (value a (place + 2)))
    otherwise if is_kind a place 3 then Some (Causes.Missing (value a (place + 1)))
    otherwise if is_kind a place 4 then Some (Causes.Value (value a (place + 1)) (value a (place + 2)) (value a (place + 3)))
    otherwise if is_kind a place 5 then Some (Causes.Surplus (value a (place + 1)) (value a (place + 2)))
    otherwise if is_kind a place 6 then Some (Causes.Seconds (value a (place + 1)) (value a (place + 2)))
    otherwise Some Causes.Kilobytes

cause_meant_lem : (x : Option Cause) → cause_meant 0 (cause_answer x) ≡ x
unfolding cause_answer cause_values
cause_meant_lem None = refl
cause_meant_lem (Some (Causes.Id found wanted)) = refl
cause_meant_lem (Some (Causes.Missing attributetype)) = refl
cause_meant_lem (Some (Causes.Value attributetype found wanted)) = refl
cause_meant_lem (Some (Causes.Surplus attributetype found)) = refl
cause_meant_lem (Some (Causes.Seconds found longest)) = refl
cause_meant_lem (Some Causes.Kilobytes) = refl

pub cause_own : (x y : Option Cause) → cause_answer x ≡ cause_answer y → x ≡ y
cause_own x y h = sym (cause_meant_lem x) ∙ ap (cause_meant 0) h ∙ cause_meant_lem y

abbrev pair_meant : (a : Answer) → Option PairCause
pair_meant a = if is_kind a 0 1 then None otherwise if is_kind a 0 2 then Some Pairs.Protocols otherwise Some Pairs.Transforms

pair-meant : (x : Option PairCause) → pair_meant (pair_answer x) ≡ x
unfolding pair_answer
pair-meant None = refl
pair-meant (Some Pairs.Protocols) = refl
pair-meant (Some Pairs.Transforms) = refl

pub pair-own : (x y : Option PairCause) → pair_answer x ≡ pair_answer y → x ≡ y
pair-own x y h = sym (pair-meant x) ∙ ap pair_meant h ∙ pair-meant y

abbrev offer_meant : (a : Answer) → Offer
offer_meant a = if eqb (length a.values) 0 then Offers.Refused a.number otherwise Offers.Readable (value a 0) (value a 1)

offer-meant : (x : Offer) → offer_meant (offer_answer x) ≡ x
unfolding offer_answer
offer-meant (Offers.Refused number) = refl
offer-meant (Offers.Readable exchange count) = refl

pub offer-own : (x y : Offer) → offer_answer x ≡ offer_answer y → x ≡ y
offer-own x y h = sym (offer-meant x) ∙ ap offer_meant h ∙ offer-meant y

abbrev why_meant : (a : Answer) → Why
why_meant a =
    if eqb (length a.values) 0 then Whys.Refused a.number
    otherwise if is_kind a 0 1 then Whys.NoSuchPlace
    otherwise if is_kind a 0 2 then Whys.Protocols
    otherwise Whys.Transform (cause_meant 1 a)

why-meant : (x : Why) → why_meant (why_answer x) ≡ x
unfolding why_answer cause_values
why-meant (Whys.Refused number) = refl
why-meant Whys.NoSuchPlace = refl
why-meant Whys.Protocols = refl
why-meant (Whys.Transform None) = refl
why-meant (Whys.Transform (Some (Causes.Id found wanted))) = refl
why-meant (Whys.Transform (Some (Causes.Missing attributetype))) = refl
why-meant (Whys.Transform (Some (Causes.Value attributetype found wanted))) = refl
why-meant (Whys.Transform (Some (Causes.Surplus attributetype found))) = refl
why-meant (Whys.Transform (Some (Causes.Seconds found longest))) = refl
why-meant (Whys.Transform (Some Causes.Kilobytes)) = refl

pub why-own : (x y : Why) → why_answer x ≡ why_answer y → x ≡ y
why-own x y h = sym (why-meant x) ∙ ap why_meant h ∙ why-meant y
