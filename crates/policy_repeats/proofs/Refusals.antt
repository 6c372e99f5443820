-- Which number a difference is refused with: 15 where the reply does not repeat the offer, 14 where it is not the book's choice.
use Prim.Native.Nat.{ℕ}
use mathlib.Core.Path.{◌≡◌, refl, sym, ap, ◌∙◌}
use mathlib.Core.Logic.{◌⊎◌, inl, inr, ⊎_elim}
use mathlib.Core.List.{List}
use mathlib.Core.Bool.{Bool, true, false, not}
use lib.ListN.{length}
use lib.Dec.{eqb}
use Rattle.wire_read.specs.Wire.{equal}
use Rattle.wire_read.specs.Tests.{if◌then◌otherwise◌}
use Rattle.wire_read.proofs.Tests.{never}
use Rattle.sa_fields.specs.Fields.{transform_count, transform_number, transform_id, attributes_of}
use Rattle.sa_fields.specs.declared.ProposalNumber.{ProposalNumber}
use Rattle.sa_fields.specs.declared.TransformNumber.{TransformNumber}
use Rattle.sa_items.specs.Items.{proposal}
use Rattle.sa_sets.specs.Sets.{set_count}
use Rattle.policy_choice.specs.Choice.{Choice}
use Rattle.policy_choice.specs.Choice as choices
use Rattle.policy_choice.specs.declared.Transforms.{Transforms}
use Rattle.policy_choice.specs.declared.Transforms.TheVariants.{One, Two}
use Rattle.policy_lawful.specs.Difference.{Difference}
use Rattle.policy_lawful.specs.Difference.{Nothing, OfferRefused, BookRefused, ReplyRefused, SeveralSets, SetNotOffered, Protocols, Order, SeveralTransforms, TransformNotOffered, Id, Attributes, OtherSet, OtherTransform, NothingChosen}
use Rattle.policy_lawful.specs.Difference.{Refused, Lawful}
use Rattle.policy_lawful.specs.Lawful.{◌or_else◌, replied_transform, offered_transform, several_transforms, transform_not_offered, other_id, other_attributes, last, same_protocols, same_order, protocols_differ, transforms_differ, replied_set, replied_number, offered_set, sets_differ, bodies_differ, other_transform, other_transforms, other_set, choice_differs, lawful_by}

-- what differs is refused, so nothing behind it counts
pub refused-first : (a b : Difference) (number : ℕ) → lawful_by a ≡ Refused number → (a or_else b) ≡ a
unfolding ◌or_else◌ lawful_by
refused-first Nothing b number h = never (cc)
refused-first (OfferRefused n) b number h = refl
refused-first (BookRefused n) b number h = refl
refused-first (ReplyRefused n) b number h = refl
refused-first (SeveralSets count) b number h = refl
refused-first (SetNotOffered n) b number h = refl
refused-first Protocols b number h = refl
refused-first Order b number h = refl
refused-first (SeveralTransforms protocol count) b number h = refl
refused-first (TransformNotOffered protocol n) b number h = refl
refused-first (Id protocol n found offered) b number h = refl
refused-first (Attributes protocol n) b number h = refl
refused-first (OtherSet found chosen) b number h = refl
refused-first (OtherTransform protocol found chosen) b number h = refl
refused-first NothingChosen b number h = refl

-- every other difference is refused
something_refused : (a : Difference) → (a ≡ Nothing) ⊎ ((number : ℕ) × (lawful_by a ≡ Refused number))
unfolding lawful_by
something_refused Nothing = inl refl
something_refused (OfferRefused n) = inr (n, refl)
something_refused (BookRefused n) = inr (n, refl)
something_refused (ReplyRefused n) = inr (n, refl)
something_refused (SeveralSets count) = inr (15, refl)
something_refused (SetNotOffered n) = inr (15, refl)
something_refused Protocols = inr (15, refl)
something_refused Order = inr (15, refl)
something_refused (SeveralTransforms protocol count) = inr (15, refl)
something_refused (TransformNotOffered protocol n) = inr (15, refl)
something_refused (Id protocol n found offered) = inr (15, refl)
something_refused (Attributes protocol n) = inr (15, refl)
something_refused (OtherSet found chosen) = inr (14, refl)
something_refused (OtherTransform protocol found chosen) = inr (14, refl)
something_refused NothingChosen = inr (14, refl)

-- so only nothing is lawful, and nothing differs in either of two where nothing differs first
pub lawful-nothing : (a : Difference) → lawful_by a ≡ Lawful → a ≡ Nothing
lawful-nothing a h = ⊎_elim (λ e. e) (λ r. let bad = sym h ∙ r.1 in never (cc)) (something_refused a)

pub neither_differs : (a b : Difference) → (a or_else b) ≡ Nothing → (a ≡ Nothing) × (b ≡ Nothing)
unfolding ◌or_else◌ lawful_by
neither_differs a b h =
    ⊎_elim (λ e. (e, rw e at h)) (λ r. let is = sym (refused-first a b r.0 r.1) ∙ h in let bad = sym (ap lawful_by is) ∙ r.1 in never (cc))
    (something_refused a)

pub nothing_differs : (a b : Difference) → a ≡ Nothing → b ≡ Nothing → (a or_else b) ≡ Nothing
unfolding ◌or_else◌
nothing_differs a b h g = rw (h, g)

-- nothing differs, or what does is refused with this number
abbrev pub Only : (number : ℕ) (a : Difference) → Type 0
Only number a = (a ≡ Nothing) ⊎ (lawful_by a ≡ Refused number)

module _ (number : ℕ) where
  only_else : (a b : Difference) → Only number a → Only number b → Only number (a or_else b)
  unfolding ◌or_else◌
  only_else a b (inl e) f = rw e f
  only_else a b (inr e) f = rw (refused-first a b number e) (inr e)

  only_unless : (test : Bool) (a : Difference) → lawful_by a ≡ Refused number → Only number (if test then Nothing otherwise a)
  only_unless true a h = inl refl
  only_unless false a h = inr h

  only_if : (test : Bool) (a b : Difference) → lawful_by a ≡ Refused number → Only number b → Only number (if test then a otherwise b)
  only_if true a b h f = inr h
  only_if false a b h f = f

-- ---- 15

module _ (p q : List ℕ) where
  several_only : Only 15 (several_transforms q)
  unfolding several_transforms lawful_by
  several_only = only_unless 15 (eqb (transform_count q) 1) _ refl

  number_only : Only 15 (transform_not_offered p q)
  unfolding transform_not_offered lawful_by
  number_only = only_if 15 (eqb (length (offered_transform p q)) 0) _ Nothing refl (inl refl)

  id_only : Only 15 (other_id p q)
  unfolding other_id lawful_by
  id_only = only_unless 15 (eqb (transform_id (replied_transform q)) (transform_id (offered_transform p q))) _ refl

  attributes_only : Only 15 (other_attributes p q)
  unfolding other_attributes lawful_by
  attributes_only = only_unless 15 (equal (attributes_of (replied_transform q)) (attributes_of (offered_transform p q))) _ refl

module _ (o s : List ℕ) where
  protocols_only : Only 15 (protocols_differ o s)
  unfolding protocols_differ lawful_by
  protocols_only = only_if 15 (not (same_protocols o s)) Protocols _ refl (only_if 15 (not (same_order o s)) Order Nothing refl (inl refl))

  transforms_only : Only 15 (transforms_differ o s)
  unfolding transforms_differ
  transforms_only =
      only_else 15 _ _
      (only_else 15 _ _
      (only_else 15 _ _ (only_else 15 _ _ (several_only (proposal 0 o) (proposal 0 s)) (several_only (last o) (last s)))
      (only_else 15 _ _ (number_only (proposal 0 o) (proposal 0 s)) (number_only (last o) (last s))))
      (only_else 15 _ _ (id_only (proposal 0 o) (proposal 0 s)) (id_only (last o) (last s))))
      (only_else 15 _ _ (attributes_only (proposal 0 o) (proposal 0 s)) (attributes_only (last o) (last s)))

module _ (offer reply : List ℕ) where
  sets_only : Only 15 (sets_differ offer reply)
  unfolding sets_differ lawful_by
  sets_only =
      only_if 15 (not (eqb (set_count reply) 1)) _ _ refl (only_if 15 (eqb (length (offered_set offer reply)) 0) _ Nothing refl (inl refl))

  pub bodies_only : Only 15 (bodies_differ offer reply)
  unfolding bodies_differ
  bodies_only =
      only_else 15 _ _ (only_else 15 _ _ sets_only (protocols_only (offered_set offer reply) (replied_set reply)))
      (transforms_only (offered_set offer reply) (replied_set reply))

-- ---- 14

transform_only : (chosen : TransformNumber) (q : List ℕ) → Only 14 (other_transform chosen q)
unfolding other_transform lawful_by
transform_only chosen q = only_unless 14 (eqb (transform_number (replied_transform q)).0 chosen.0) _ refl

chosen_only : (s : List ℕ) (chosen : Transforms) → Only 14 (other_transforms s chosen)
unfolding other_transforms
chosen_only s (One t) = transform_only t (proposal 0 s)
chosen_only s (Two t u) = only_else 14 _ _ (transform_only t (proposal 0 s)) (transform_only u (last s))

set_only : (number chosen : ProposalNumber) → Only 14 (other_set number chosen)
unfolding other_set lawful_by
set_only number chosen = only_unless 14 (eqb number.0 chosen.0) _ refl

pub choice_only : (reply : List ℕ) (chosen : Choice) → Only 14 (choice_differs reply chosen)
unfolding choice_differs lawful_by
choice_only reply (choices.Refused number) = inr refl
choice_only reply (choices.Chosen number line transforms) =
    only_else 14 _ _ (set_only (replied_number reply) number) (chosen_only (replied_set reply) transforms)
