-- A law for each way out of the functions on lawful replies.
use Prim.Native.Nat.{ℕ, ◌-◌}
use mathlib.Core.Path.{◌≡◌, refl, sym, ap, ◌∙◌}
use Rattle.std.specs.Prelude.{Option, None, Some, Result, Ok, Err, MatchOption, is_some}
use Rattle.std.specs.Option.{option_or}
use Rattle.std.specs.Result.{result_err}
use Rattle.wire_read.proofs.Tests.{clash, never}
use Rattle.refusal.specs.declared.Refusal.{Refusal}
use Rattle.refusal.specs.Numbers.{number}
use Rattle.message_chain.specs.declared.Message.{Message}
use Rattle.policy_book.specs.declared.Book.{Book as Lines}
use Rattle.policy_book.specs.Book.{book_told}
use Rattle.policy_why.specs.Offer.{offer_told}
use mathlib.Core.List.{List}
use mathlib.Core.Bool.{Bool, true, false, not, ◌||◌, ◌&&◌}
use lib.ListN.{length}
use lib.Dec.{eqb}
use borrow.Author.Tests.{eq-eqb, ne_eqb}
use Rattle.wire_read.specs.Wire.{equal}
use Rattle.wire_read.specs.Tests.{if◌then◌otherwise◌}
use Rattle.message_header.specs.Header.{exchange_of}
use Rattle.message_chain.specs.Message.{message}
use Rattle.sa_fields.specs.Fields.{proposal_number, protocol, transform_count, transform_number, transform_id, attributes_of}
use Rattle.sa_fields.specs.declared.ProposalNumber.{ProposalNumber}
use Rattle.sa_fields.specs.declared.TransformNumber.{TransformNumber}
use Rattle.sa_items.specs.Items.{proposal, proposal_count, transform, transform_numbered}
use Rattle.sa_sets.specs.Sets.{set, set_count, set_numbered}
use Rattle.policy_book.specs.Book.{book_read}
use Rattle.policy_book.specs.Book.{Book}
use Rattle.policy_book.specs.Book as books
use Rattle.policy_lines.specs.declared.LineNumber.{LineNumber}
use Rattle.policy_choice.specs.Choice.{choose_from, sa_from}
use Rattle.policy_choice.specs.Choice.{Choice}
use Rattle.policy_choice.specs.Choice as choices
use Rattle.policy_choice.specs.declared.Transforms.{Transforms}
use Rattle.policy_choice.specs.declared.Transforms.TheVariants.{One, Two}
use Rattle.policy_why.specs.Why.{message_offer}
use Rattle.policy_why.specs.Offer.{Offer}
use Rattle.policy_why.specs.Offer as offers
use Rattle.policy_lawful.specs.declared.Difference.{Difference as Found}
use Rattle.policy_lawful.specs.declared.Difference.TheVariants as found
use Rattle.policy_lawful.specs.Difference.{difference_told, Difference, Lawfulness, Refused, Lawful, Nothing, OfferRefused, BookRefused, ReplyRefused, SeveralSets, SetNotOffered, Protocols, Order, SeveralTransforms, TransformNotOffered, Id, Attributes, OtherSet, OtherTransform, NothingChosen}
use Rattle.policy_lawful.specs.Lawful.{◌or_else◌, offer_refused, book_refused, reply_refused, replied_transform, offered_transform, several_transforms, transform_not_offered, other_id, other_attributes, of_each, last, has_protocol, same_protocols, same_order, protocols_differ, transforms_differ, replied_set, replied_number, offered_set, sets_differ, bodies_differ, other_transform, other_transforms, other_set, choice_differs, unread, compared, first_difference, lawful_by, reply_lawful}

-- ---- the first of two differences

-- any variant but `Nothing`
pub else_first : (first next : Difference) → (first ≡ Nothing → ⊥) → first ≡ (first or_else next)
unfolding ◌or_else◌
else_first Nothing next some = absurd (some refl)
else_first (OfferRefused number) next some = refl
else_first (BookRefused number) next some = refl
else_first (ReplyRefused number) next some = refl
else_first (SeveralSets count) next some = refl
else_first (SetNotOffered number) next some = refl
else_first Protocols next some = refl
else_first Order next some = refl
else_first (SeveralTransforms protocol count) next some = refl
else_first (TransformNotOffered protocol number) next some = refl
else_first (Id protocol number found offered) next some = refl
else_first (Attributes protocol number) next some = refl
else_first (OtherSet found chosen) next some = refl
else_first (OtherTransform protocol found chosen) next some = refl
else_first NothingChosen next some = refl

else_told : (found : Found) (next : Difference) → difference_told (Some found) ≡ (difference_told (Some found) or_else next)
unfolding ◌or_else◌
else_told (found.OfferRefused refusal) next = refl
else_told (found.BookRefused refusal) next = refl
else_told (found.ReplyRefused refusal) next = refl
else_told (found.SeveralSets count) next = refl
else_told (found.SetNotOffered number) next = refl
else_told found.Protocols next = refl
else_told found.Order next = refl
else_told (found.SeveralTransforms protocol count) next = refl
else_told (found.TransformNotOffered protocol number) next = refl
else_told (found.Id protocol number found offered) next = refl
else_told (found.Attributes protocol number) next = refl
else_told (found.OtherSet found chosen) next = refl
else_told (found.OtherTransform protocol found chosen) next = refl
else_told found.NothingChosen next = refl

-- the next is asked only where there is no first
pub or_told : {Asked : Type 0} (first r : Option Found) (next : Difference) → MatchOption first Asked (λ found. r ≡ Some found) →
    (Asked → difference_told r ≡ next) → difference_told r ≡ (difference_told first or_else next)
unfolding ◌or_else◌
or_told None r next asked says = says asked
or_told (Some found) r next same says = ap difference_told same ∙ else_told found next

-- and where both are there
pub both_told : (first next : Option Found) → difference_told (option_or first next) ≡ (difference_told first or_else difference_told next)
unfolding ◌or_else◌
both_told None next = refl
both_told (Some found) next = else_told found (difference_told next)

-- nothing behind it changes nothing
pub else_last : (first : Difference) → first ≡ (first or_else Nothing)
unfolding ◌or_else◌
else_last Nothing = refl
else_last (OfferRefused number) = refl
else_last (BookRefused number) = refl
else_last (ReplyRefused number) = refl
else_last (SeveralSets count) = refl
else_last (SetNotOffered number) = refl
else_last Protocols = refl
else_last Order = refl
else_last (SeveralTransforms protocol count) = refl
else_last (TransformNotOffered protocol number) = refl
else_last (Id protocol number found offered) = refl
else_last (Attributes protocol number) = refl
else_last (OtherSet found chosen) = refl
else_last (OtherTransform protocol found chosen) = refl
else_last NothingChosen = refl

-- one that is there, and one that is not
pub there : (next : Difference) (first : Option Found) → is_some first ≡ true → difference_told first ≡ (difference_told first or_else next)
there next None some = clash some
there next (Some found) some = else_told found next

pub absent : (next : Difference) (first : Option Found) → is_some first ≡ false → next ≡ (difference_told first or_else next)
unfolding ◌or_else◌
absent next None none = refl
absent next (Some found) none = clash (sym none)

-- ---- which of the three cannot be read

pub offer-read : (answer : Result Message Refusal) → result_err answer ≡ None → Nothing ≡ offer_refused (offer_told answer)
unfolding offer_refused
offer-read (Ok read) h = refl
offer-read (Err other) h = never (cc)

pub offer-unread : (answer : Result Message Refusal) (refusal : Refusal) → result_err answer ≡ Some refusal →
    OfferRefused (number refusal) ≡ offer_refused (offer_told answer)
unfolding offer_refused
offer-unread (Ok read) refusal h = never (cc)
offer-unread (Err other) refusal h = cc

pub reply_read : (answer : Result Message Refusal) → result_err answer ≡ None → Nothing ≡ reply_refused (offer_told answer)
unfolding reply_refused
reply_read (Ok read) h = refl
reply_read (Err other) h = never (cc)

pub reply_unread : (answer : Result Message Refusal) (refusal : Refusal) → result_err answer ≡ Some refusal →
    ReplyRefused (number refusal) ≡ reply_refused (offer_told answer)
unfolding reply_refused
reply_unread (Ok read) refusal h = never (cc)
reply_unread (Err other) refusal h = cc

pub book-read : (answer : Result Lines Refusal) → result_err answer ≡ None → Nothing ≡ book_refused (book_told answer)
unfolding book_refused
book-read (Ok read) h = refl
book-read (Err other) h = never (cc)

pub book-unread : (answer : Result Lines Refusal) (refusal : Refusal) → result_err answer ≡ Some refusal →
    BookRefused (number refusal) ≡ book_refused (book_told answer)
unfolding book_refused
book-unread (Ok read) refusal h = never (cc)
book-unread (Err other) refusal h = cc

-- ---- a proposal of the reply beside the offered one

module _ (p q t : List ℕ) (et : t ≡ transform 0 q) where
  pub transform-offered : (number : TransformNumber) (r : List ℕ) → number ≡ transform_number t → r ≡ transform_numbered number p → r ≡ offered_transform p q
  unfolding offered_transform replied_transform
  transform-offered number r en er = rw (← et, ← en) er

  module _ (o : List ℕ) (eo : o ≡ offered_transform p q) where
    module _ (found offered : ℕ) (ef : found ≡ transform_id t) (ei : offered ≡ transform_id o) where
      pub id_same : found ≡ offered → Nothing ≡ other_id p q
      unfolding other_id replied_transform
      id_same h = rw (← et, ← eo, ← ef, ← ei, eq-eqb found offered h)

      pub id_other : (found ≡ offered → ⊥) → (its : ℕ) (number : TransformNumber) → its ≡ protocol q → number ≡ transform_number t →
          Id its number found offered ≡ other_id p q
      unfolding other_id replied_transform
      id_other h its number ep en = rw (← et, ← eo, ← ef, ← ei, ne_eqb found offered h, ← ep, ← en)

    module _ (replied offered : List ℕ) (er : replied ≡ attributes_of t) (ei : offered ≡ attributes_of o) (same : Bool) (es : same ≡ equal replied offered) where
      pub attributes-same : same ≡ true → Nothing ≡ other_attributes p q
      unfolding other_attributes replied_transform
      attributes-same h = rw (← et, ← eo, ← er, ← ei, ← es, h)

      pub attributes-other : same ≡ false → (its : ℕ) (number : TransformNumber) → its ≡ protocol q → number ≡ transform_number t →
          Attributes its number ≡ other_attributes p q
      unfolding other_attributes replied_transform
      attributes-other h its number ep en = rw (← et, ← eo, ← er, ← ei, ← es, h, ← ep, ← en)

module _ (q : List ℕ) (count : ℕ) (ec : count ≡ transform_count q) where
  pub transforms-one : count ≡ 1 → Nothing ≡ several_transforms q
  unfolding several_transforms
  transforms-one h = rw (← ec, eq-eqb count 1 h)

  pub transforms_several : (count ≡ 1 → ⊥) → (its : ℕ) → its ≡ protocol q → SeveralTransforms its count ≡ several_transforms q
  unfolding several_transforms
  transforms_several h its ep = rw (← ec, ne_eqb count 1 h, ← ep)

module _ (p q o : List ℕ) (eo : o ≡ offered_transform p q) where
  pub number-there : (length o ≡ 0 → ⊥) → Nothing ≡ transform_not_offered p q
  unfolding transform_not_offered
  number-there h = rw (← eo, ne_eqb (length o) 0 h)

  pub number-absent : length o ≡ 0 → (its : ℕ) (t : List ℕ) (number : TransformNumber) → its ≡ protocol q → t ≡ transform 0 q → number ≡ transform_number t →
      TransformNotOffered its number ≡ transform_not_offered p q
  unfolding transform_not_offered replied_transform
  number-absent h its t number ep et en = rw (← eo, eq-eqb (length o) 0 h, ← ep, ← et, ← en)

-- ---- the reply's set beside the offered one

module _ (s r : List ℕ) (count : ℕ) (ec : count ≡ proposal_count s) where
  pub last_none : count ≡ 0 → r ≡ proposal 0 s → r ≡ last s
  unfolding last
  last_none h er = rw (← ec, h) er

  pub last_some : r ≡ proposal (count - 1) s → r ≡ last s
  unfolding last
  last_some er = rw (← ec) er

pub protocol_asked : (s a b : List ℕ) (first second wanted : ℕ) → a ≡ proposal 0 s → first ≡ protocol a → b ≡ last s → second ≡ protocol b →
    (eqb first wanted || eqb second wanted) ≡ has_protocol s wanted
unfolding has_protocol
protocol_asked s a b first second wanted ea ef eb es = rw (← ea, ← ef, ← eb, ← es)

module _ (offered s a b : List ℕ) (first second : ℕ) (ea : a ≡ proposal 0 s) (ef : first ≡ protocol a) (eb : b ≡ last s) (es : second ≡ protocol b) where
  pub protocols-compared : (m n : ℕ) (has_first has-second : Bool) → m ≡ proposal_count offered → n ≡ proposal_count s → has_first ≡ has_protocol offered first →
      has-second ≡ has_protocol offered second → (eqb m n && has_first && has-second) ≡ same_protocols offered s
  unfolding same_protocols
  protocols-compared m n has_first has-second em en e1 e2 = rw (← ea, ← ef, ← eb, ← es, ← em, ← en, ← e1, ← e2)

  pub order_compared : (c d : List ℕ) (third fourth : ℕ) → c ≡ proposal 0 offered → third ≡ protocol c → d ≡ last offered → fourth ≡ protocol d →
      (eqb third first && eqb fourth second) ≡ same_order offered s
  unfolding same_order
  order_compared c d third fourth ec et ed eu = rw (← ea, ← ef, ← eb, ← es, ← ec, ← et, ← ed, ← eu)

module _ (offered s : List ℕ) (same : Bool) (es : same ≡ same_protocols offered s) where
  pub protocols-other : not same ≡ true → Protocols ≡ protocols_differ offered s
  unfolding protocols_differ
  protocols-other h = rw (← es, h)

  module _ (alike : not same ≡ false) (ordered : Bool) (eo : ordered ≡ same_order offered s) where
    pub order_other : not ordered ≡ true → Order ≡ protocols_differ offered s
    unfolding protocols_differ
    order_other h = rw (← es, alike, ← eo, h)

    pub order_same : not ordered ≡ false → Nothing ≡ protocols_differ offered s
    unfolding protocols_differ
    order_same h = rw (← es, alike, ← eo, h)

-- the first proposals differ, or the last are asked
module _ (told : List ℕ → List ℕ → Difference) (offered s p q : List ℕ) (ep : p ≡ proposal 0 offered) (eq : q ≡ proposal 0 s) (first : Option Found)
    (ef : difference_told first ≡ told p q) where
  pub each-first : is_some first ≡ true → difference_told first ≡ of_each told offered s
  each-first some = rw (← ep, ← eq, ← ef) (there _ first some)

  pub each-last : is_some first ≡ false → (p2 q2 : List ℕ) (r : Difference) → p2 ≡ last offered → q2 ≡ last s → r ≡ told p2 q2 → r ≡ of_each told offered s
  each-last none p2 q2 r ep2 eq2 er = rw (← ep, ← eq, ← ef, ← ep2, ← eq2, ← er) (absent _ first none)

-- ---- two bodies

pub number-replied : (reply s p : List ℕ) (r : ProposalNumber) → s ≡ set 0 reply → p ≡ proposal 0 s → r ≡ proposal_number p → r ≡ replied_number reply
unfolding replied_number replied_set
number-replied reply s p r es ep er = rw (← es, ← ep) er

pub set-offered : (offer reply r : List ℕ) (number : ProposalNumber) → number ≡ replied_number reply → r ≡ set_numbered number offer → r ≡ offered_set offer reply
unfolding offered_set
set-offered offer reply r number en er = rw (← en) er

module _ (offer reply : List ℕ) (count : ℕ) (ec : count ≡ set_count reply) where
  pub sets_several : (count ≡ 1 → ⊥) → SeveralSets count ≡ sets_differ offer reply
  unfolding sets_differ
  sets_several h = rw (← ec, ne_eqb count 1 h)

  module _ (one : count ≡ 1) (o : List ℕ) (eo : o ≡ offered_set offer reply) where
    pub set-absent : length o ≡ 0 → (number : ProposalNumber) → number ≡ replied_number reply → SetNotOffered number ≡ sets_differ offer reply
    unfolding sets_differ
    set-absent h number en = rw (← ec, eq-eqb count 1 one, ← eo, eq-eqb (length o) 0 h, ← en)

    pub set_there : (length o ≡ 0 → ⊥) → Nothing ≡ sets_differ offer reply
    unfolding sets_differ
    set_there h = rw (← ec, eq-eqb count 1 one, ← eo, ne_eqb (length o) 0 h)

pub bodies_compared : (offer reply o s : List ℕ) (a ab r : Difference) → o ≡ offered_set offer reply → s ≡ set 0 reply → a ≡ sets_differ offer reply →
    ab ≡ (a or_else protocols_differ o s) → r ≡ (ab or_else transforms_differ o s) → r ≡ bodies_differ offer reply
unfolding bodies_differ replied_set
bodies_compared offer reply o s a ab r eo es ea eab er = rw (← eo, ← es, ← ea, ← eab) er

-- ---- what the book chooses

module _ (chosen : TransformNumber) (q t : List ℕ) (et : t ≡ transform 0 q) (found : TransformNumber) (ef : found ≡ transform_number t) (same : Bool)
    (es : same ≡ eqb found.0 chosen.0) where
  pub transform-same : same ≡ true → Nothing ≡ other_transform chosen q
  unfolding other_transform replied_transform
  transform-same h = rw (← et, ← ef, ← es, h)

  pub transform-other : same ≡ false → (its : ℕ) → its ≡ protocol q → OtherTransform its found chosen ≡ other_transform chosen q
  unfolding other_transform replied_transform
  transform-other h its ep = rw (← et, ← ef, ← es, h, ← ep)

module _ (s : List ℕ) (chosen : Transforms) (q : List ℕ) (eq : q ≡ proposal 0 s) where
  pub chose_one : (t : TransformNumber) → chosen ≡ One t → (r : Difference) → r ≡ other_transform t q → r ≡ other_transforms s chosen
  unfolding other_transforms
  chose_one t h r er = rw (h, ← eq) er

  pub chose_two : (t u : TransformNumber) → chosen ≡ Two t u → (first r : Difference) → first ≡ other_transform t q →
      r ≡ (first or_else other_transform u (last s)) → r ≡ other_transforms s chosen
  unfolding other_transforms
  chose_two t u h first r ef er = rw (h, ← eq, ← ef) er

module _ (number chosen : ProposalNumber) (same : Bool) (es : same ≡ eqb number.0 chosen.0) where
  pub set_same : same ≡ true → Nothing ≡ other_set number chosen
  unfolding other_set
  set_same h = rw (← es, h)

  pub set_other : same ≡ false → OtherSet number chosen ≡ other_set number chosen
  unfolding other_set
  set_other h = rw (← es, h)

-- ---- all of it

module _ (booked : Bool) (book offer reply : List ℕ) where
  pub unread-all : (x y z xy xyz : Option Found) → difference_told x ≡ offer_refused (message_offer offer (message offer)) →
      difference_told y ≡ (if booked then book_refused (book_read book) otherwise Nothing) →
      difference_told z ≡ reply_refused (message_offer reply (message reply)) → xy ≡ option_or x y → xyz ≡ option_or xy z →
      difference_told xyz ≡ unread booked book offer reply
  unfolding unread
  unread-all x y z xy xyz ex ey ez exy exyz = rw (exyz, both_told xy z, exy, both_told x y, ex, ey, ez)

  pub compared-all : (exchange : ℕ) (x y xy : Option Found) → difference_told x ≡ bodies_differ offer reply →
      difference_told y ≡ (if booked then choice_differs reply (choose_from exchange book offer) otherwise Nothing) → xy ≡ option_or x y →
      difference_told xy ≡ compared booked exchange book offer reply
  unfolding compared
  compared-all exchange x y xy ex ey exy = rw (exy, both_told x y, ex, ey)

module _ (booked : Bool) (book offer reply : List ℕ) (found : Difference) (ef : found ≡ unread booked book offer reply) where
  pub differs_unread : (found ≡ Nothing → ⊥) → found ≡ first_difference booked book offer reply
  unfolding first_difference
  differs_unread h = rw (← ef) (else_first found _ h)

-- ---- the number of a refusal

-- how the reply does not repeat the offer: any variant but those that are named
module _ (x : Found) (offer : (r : Refusal) → x ≡ found.OfferRefused r → ⊥) (book : (r : Refusal) → x ≡ found.BookRefused r → ⊥)
    (reply : (r : Refusal) → x ≡ found.ReplyRefused r → ⊥) (set : (f c : ProposalNumber) → x ≡ found.OtherSet f c → ⊥)
    (transform : (p : ℕ) (f c : TransformNumber) → x ≡ found.OtherTransform p f c → ⊥) (chosen : x ≡ found.NothingChosen → ⊥) where
  by_case : (y : Found) → x ≡ y → Refused 15 ≡ lawful_by (difference_told (Some y))
  unfolding lawful_by
  by_case (found.OfferRefused refusal) e = absurd (offer refusal e)
  by_case (found.BookRefused refusal) e = absurd (book refusal e)
  by_case (found.ReplyRefused refusal) e = absurd (reply refusal e)
  by_case (found.SeveralSets count) e = refl
  by_case (found.SetNotOffered number) e = refl
  by_case found.Protocols e = refl
  by_case found.Order e = refl
  by_case (found.SeveralTransforms protocol count) e = refl
  by_case (found.TransformNotOffered protocol number) e = refl
  by_case (found.Id protocol number found offered) e = refl
  by_case (found.Attributes protocol number) e = refl
  by_case (found.OtherSet found other) e = absurd (set found other e)
  by_case (found.OtherTransform protocol found other) e = absurd (transform protocol found other e)
  by_case found.NothingChosen e = absurd (chosen e)

  pub by_repeat : Refused 15 ≡ lawful_by (difference_told (Some x))
  by_repeat = by_case x refl
