-- Document 02, "Is this gateway's reply lawful?": "accept the reply exactly if it repeats one offered set with one offered transform per
-- proposal, unaltered and in the offer's order; with a book, also only if it is the choice document 01 makes". What differs first is found in
-- the order of the refusals; what a lawful reply is with no search in it, and that the two agree, is policy_repeats's.
use Rattle.std.specs.Prelude.{ℕ, ◌-◌, List, [], ◌∷◌, Bool, not, ◌||◌, ◌&&◌, length, eqb}
use Rattle.wire_read.specs.Wire.{Bytes, equal}
use Rattle.wire_read.specs.Tests.{if◌then◌otherwise◌}
use Rattle.wire_read.specs.Answer.{Answer, done, refused}
use Rattle.message_header.specs.Header.{exchange_of}
use Rattle.message_chain.specs.Message.{message}
use Rattle.sa_fields.specs.Fields.{proposal_number, protocol, transform_count, transform_number, transform_id, attributes_of}
use Rattle.sa_fields.specs.declared.ProposalNumber.{ProposalNumber}
use Rattle.sa_fields.specs.declared.TransformNumber.{TransformNumber}
use Rattle.sa_items.specs.Items.{proposal, proposal_count, transform, transform_numbered}
use Rattle.sa_sets.specs.Sets.{set, set_count, set_numbered}
use Rattle.policy_book.specs.Book.{book_read}
use Rattle.policy_book.specs.Book.{Book}
use Rattle.policy_book.specs.Book as books
use Rattle.policy_choice.specs.Choice.{choose_from, sa_from}
use Rattle.policy_choice.specs.Choice.{Choice}
use Rattle.policy_choice.specs.Choice as choices
use Rattle.policy_choice.specs.declared.Transforms.{Transforms}
use Rattle.policy_choice.specs.declared.Transforms.TheVariants.{One, Two}
use Rattle.policy_why.specs.Why.{message_offer}
use Rattle.policy_why.specs.Offer.{Offer}
use Rattle.policy_why.specs.Offer as offers
use Rattle.policy_lawful.specs.Difference.{Difference, Lawfulness, Refused, Lawful, Nothing, OfferRefused, BookRefused, ReplyRefused, SeveralSets, SetNotOffered, Protocols, Order, SeveralTransforms, TransformNotOffered, Id, Attributes, OtherSet, OtherTransform, NothingChosen}

-- what differs first: this, or where it is nothing the next
infixl 20 ◌or_else◌
unfoldable pub ◌or_else◌ : (first next : Difference) → Difference
Nothing or_else next = next
OfferRefused number or_else next = OfferRefused number
BookRefused number or_else next = BookRefused number
ReplyRefused number or_else next = ReplyRefused number
SeveralSets count or_else next = SeveralSets count
SetNotOffered number or_else next = SetNotOffered number
Protocols or_else next = Protocols
Order or_else next = Order
SeveralTransforms protocol count or_else next = SeveralTransforms protocol count
TransformNotOffered protocol number or_else next = TransformNotOffered protocol number
Id protocol number found offered or_else next = Id protocol number found offered
Attributes protocol number or_else next = Attributes protocol number
OtherSet found chosen or_else next = OtherSet found chosen
OtherTransform protocol found chosen or_else next = OtherTransform protocol found chosen
NothingChosen or_else next = NothingChosen

-- ---- "those of reading the offer (16 without an SA), then of the book, then of the reply (likewise)"

unfoldable pub offer_refused : (read : Offer) → Difference
offer_refused (offers.Refused number) = OfferRefused number
offer_refused (offers.Readable exchange count) = Nothing

unfoldable pub book_refused : (read : Book) → Difference
book_refused (books.Refused number) = BookRefused number
book_refused (books.Lawful main quick) = Nothing

unfoldable pub reply_refused : (read : Offer) → Difference
reply_refused (offers.Refused number) = ReplyRefused number
reply_refused (offers.Readable exchange count) = Nothing

-- ---- a proposal q of the reply beside the offered proposal p

-- the reply's transform, and the offered one that has its number; no bytes where there is none
unfoldable pub replied_transform : (q : Bytes) → Bytes
replied_transform q = transform 0 q

unfoldable pub offered_transform : (p q : Bytes) → Bytes
offered_transform p q = transform_numbered (transform_number (replied_transform q)) p

-- "several transforms in a proposal"
unfoldable pub several_transforms : (q : Bytes) → Difference
several_transforms q = if eqb (transform_count q) 1 then Nothing otherwise SeveralTransforms (protocol q) (transform_count q)

-- "transform number not offered"
unfoldable pub transform_not_offered : (p q : Bytes) → Difference
transform_not_offered p q =
    if eqb (length (offered_transform p q)) 0 then TransformNotOffered (protocol q) (transform_number (replied_transform q)) otherwise Nothing

-- "its ID"
unfoldable pub other_id : (p q : Bytes) → Difference
other_id p q =
    if eqb (transform_id (replied_transform q)) (transform_id (offered_transform p q)) then Nothing
    otherwise Id (protocol q) (transform_number (replied_transform q)) (transform_id (replied_transform q)) (transform_id (offered_transform p q))

-- "its attributes"
unfoldable pub other_attributes : (p q : Bytes) → Difference
other_attributes p q =
    if equal (attributes_of (replied_transform q)) (attributes_of (offered_transform p q)) then Nothing
    otherwise Attributes (protocol q) (transform_number (replied_transform q))

-- ---- the reply's set beside the offered set that has its number

-- a set that reads has one proposal or two (`set-few` of sa_found), so that its first and its last are all
unfoldable pub last : (s : Bytes) → Bytes
last s = proposal (proposal_count s - 1) s

-- of the first proposals, and then of the last
abbrev pub of_each : (difference : Bytes → Bytes → Difference) (offered s : Bytes) → Difference
of_each difference offered s = difference (proposal 0 offered) (proposal 0 s) or_else difference (last offered) (last s)

-- "protocols": as many proposals, and each has a protocol of the offered set
unfoldable pub has_protocol : (s : Bytes) (wanted : ℕ) → Bool
has_protocol s wanted = eqb (protocol (proposal 0 s)) wanted || eqb (protocol (last s)) wanted

unfoldable pub same_protocols : (offered s : Bytes) → Bool
same_protocols offered s =
    eqb (proposal_count offered) (proposal_count s) && has_protocol offered (protocol (proposal 0 s)) && has_protocol offered (protocol (last s))

-- "their order"
unfoldable pub same_order : (offered s : Bytes) → Bool
same_order offered s = eqb (protocol (proposal 0 offered)) (protocol (proposal 0 s)) && eqb (protocol (last offered)) (protocol (last s))

unfoldable pub protocols_differ : (offered s : Bytes) → Difference
protocols_differ offered s = if not (same_protocols offered s) then Protocols otherwise if not (same_order offered s) then Order otherwise Nothing

unfoldable pub transforms_differ : (offered s : Bytes) → Difference
transforms_differ offered s =
    of_each (λ p q. several_transforms q) offered s
    or_else of_each transform_not_offered offered s
    or_else of_each other_id offered s
    or_else of_each other_attributes offered s

-- ---- "15 for no offered choice": of two SA payloads' bodies

-- the reply's set, and its number
unfoldable pub replied_set : (reply : Bytes) → Bytes
replied_set reply = set 0 reply

unfoldable pub replied_number : (reply : Bytes) → ProposalNumber
replied_number reply = proposal_number (proposal 0 (replied_set reply))

-- the offered set that has its number; no bytes where there is none
unfoldable pub offered_set : (offer reply : Bytes) → Bytes
offered_set offer reply = set_numbered (replied_number reply) offer

-- "reply has several sets, number not offered"
unfoldable pub sets_differ : (offer reply : Bytes) → Difference
sets_differ offer reply =
    if not (eqb (set_count reply) 1) then SeveralSets (set_count reply)
    otherwise if eqb (length (offered_set offer reply)) 0 then SetNotOffered (replied_number reply)
    otherwise Nothing

-- then "protocols, their order, several transforms in a proposal, transform number not offered, its ID, its attributes"
unfoldable pub bodies_differ : (offer reply : Bytes) → Difference
bodies_differ offer reply =
    sets_differ offer reply
    or_else protocols_differ (offered_set offer reply) (replied_set reply)
    or_else transforms_differ (offered_set offer reply) (replied_set reply)

-- ---- "14 for another than the book's": "another set, another transform, nothing chosen"

unfoldable pub other_transform : (chosen : TransformNumber) (q : Bytes) → Difference
other_transform chosen q =
    if eqb (transform_number (replied_transform q)).0 chosen.0 then Nothing
    otherwise OtherTransform (protocol q) (transform_number (replied_transform q)) chosen

unfoldable pub other_transforms : (s : Bytes) (chosen : Transforms) → Difference
other_transforms s (One t) = other_transform t (proposal 0 s)
other_transforms s (Two t u) = other_transform t (proposal 0 s) or_else other_transform u (last s)

unfoldable pub other_set : (number chosen : ProposalNumber) → Difference
other_set number chosen = if eqb number.0 chosen.0 then Nothing otherwise OtherSet number chosen

unfoldable pub choice_differs : (reply : Bytes) (chosen : Choice) → Difference
choice_differs reply (choices.Refused number) = NothingChosen
choice_differs reply (choices.Chosen number line transforms) =
    other_set (replied_number reply) number or_else other_transforms (replied_set reply) transforms

-- ---- all of it, in the order of the refusals; booked says whether there is a book

-- the body of a message's SA payload; a message has at most 32 payloads
abbrev pub sa_body : (m : Bytes) → Bytes
sa_body m = sa_from 32 0 m

unfoldable pub unread : (booked : Bool) (book offer reply : Bytes) → Difference
unread booked book offer reply =
    offer_refused (message_offer offer (message offer))
    or_else (if booked then book_refused (book_read book) otherwise Nothing)
    or_else reply_refused (message_offer reply (message reply))

-- two bodies, the offer being of this exchange
unfoldable pub compared : (booked : Bool) (exchange : ℕ) (book offer reply : Bytes) → Difference
compared booked exchange book offer reply =
    bodies_differ offer reply
    or_else (if booked then choice_differs reply (choose_from exchange book offer) otherwise Nothing)

unfoldable pub first_difference : (booked : Bool) (book offer reply : Bytes) → Difference
first_difference booked book offer reply =
    unread booked book offer reply
    or_else compared booked (exchange_of offer) book (sa_body offer) (sa_body reply)

-- the number of a refusal by what differs
unfoldable pub lawful_by : (difference : Difference) → Lawfulness
lawful_by Nothing = Lawful
lawful_by (OfferRefused number) = Refused number
lawful_by (BookRefused number) = Refused number
lawful_by (ReplyRefused number) = Refused number
lawful_by (SeveralSets count) = Refused 15
lawful_by (SetNotOffered number) = Refused 15
lawful_by Protocols = Refused 15
lawful_by Order = Refused 15
lawful_by (SeveralTransforms protocol count) = Refused 15
lawful_by (TransformNotOffered protocol number) = Refused 15
lawful_by (Id protocol number found offered) = Refused 15
lawful_by (Attributes protocol number) = Refused 15
lawful_by (OtherSet found chosen) = Refused 14
lawful_by (OtherTransform protocol found chosen) = Refused 14
lawful_by NothingChosen = Refused 14

unfoldable pub reply_lawful : (booked : Bool) (book offer reply : Bytes) → Lawfulness
reply_lawful booked book offer reply = lawful_by (first_difference booked book offer reply)

-- ---- what the answers say, by number and values

unfoldable pub lawful_answer : (said : Lawfulness) → Answer
lawful_answer (Refused number) = refused number
lawful_answer Lawful = done (1 ∷ [])

unfoldable pub difference_values : (difference : Difference) → List ℕ
difference_values Nothing = 1 ∷ []
difference_values (OfferRefused number) = 2 ∷ number ∷ []
difference_values (BookRefused number) = 3 ∷ number ∷ []
difference_values (ReplyRefused number) = 4 ∷ number ∷ []
difference_values (SeveralSets count) = 5 ∷ count ∷ []
difference_values (SetNotOffered number) = 6 ∷ number.0 ∷ []
difference_values Protocols = 7 ∷ []
difference_values Order = 8 ∷ []
difference_values (SeveralTransforms protocol count) = 9 ∷ protocol ∷ count ∷ []
difference_values (TransformNotOffered protocol number) = 10 ∷ protocol ∷ number.0 ∷ []
difference_values (Id protocol number found offered) = 11 ∷ protocol ∷ number.0 ∷ found ∷ offered ∷ []
difference_values (Attributes protocol number) = 12 ∷ protocol ∷ number.0 ∷ []
difference_values (OtherSet found chosen) = 13 ∷ found.0 ∷ chosen.0 ∷ []
difference_values (OtherTransform protocol found chosen) = 14 ∷ protocol ∷ found.0 ∷ chosen.0 ∷ []
difference_values NothingChosen = 15 ∷ []

unfoldable pub difference_answer : (difference : Difference) → Answer
difference_answer difference = done (difference_values difference)
