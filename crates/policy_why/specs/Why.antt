-- Document 02, "Say why nothing was chosen": for which offers there is something to say, and the cause at each place.
use Rattle.std.specs.Prelude.{ℕ, Option, Result, Ok, Err, [], ◌∷◌, Bool, not, ◌&&◌, length, ltb, leb, eqb}
use Rattle.wire_read.specs.Wire.{Bytes}
use Rattle.wire_read.specs.Tests.{if◌then◌otherwise◌}
use Rattle.wire_read.specs.Answer.{Answer, done, refused}
use Rattle.message_chain.specs.Message.{message}
use Rattle.message_chain.specs.Message.{Message}
use Rattle.message_chain.specs.Message as read
use Rattle.sa_fields.specs.Fields.{protocol, transform_count}
use Rattle.sa_items.specs.Items.{proposal, proposal_count, transform}
use Rattle.sa_sets.specs.Sets.{set, set_count}
use Rattle.policy_book.specs.Book.{book_read}
use Rattle.policy_book.specs.Book.{Book}
use Rattle.policy_book.specs.Book as books
use Rattle.policy_suits.specs.Suits.{protocols_suit}
use Rattle.policy_cause.specs.Causes.{transform_cause, cause_values}
use Rattle.policy_choice.specs.Choice.{line_count, sa_from}
use Rattle.policy_cause.specs.declared.Cause.{Cause}
use Rattle.policy_why.specs.Offer.{Offer}
use Rattle.policy_why.specs.Offer as offers
use Rattle.policy_why.specs.declared.Places.{Places}
use Rattle.policy_why.specs.declared.Why.{Why as Said}
use Rattle.policy_why.specs.declared.Why.TheVariants as said
use Rattle.refusal.specs.declared.Refusal.{Refusal}
use Rattle.refusal.specs.Numbers.{number}

-- what is said at places, and what the code says so by
pub data Why : Type 0 where
  Refused : (number : ℕ) → Why
  NoSuchPlace : Why
  Protocols : Why
  Transform : (cause : Option Cause) → Why

abbrev pub why_told : (answer : Result Said Refusal) → Why
why_told (Ok said.NoSuchPlace) = NoSuchPlace
why_told (Ok said.Protocols) = Protocols
why_told (Ok (said.Transform cause)) = Transform cause
why_told (Err refusal) = Refused (number refusal)

-- "For a readable offer and a book": the refusals of the choice, but never 14: the book's, the message's, no SA payload (16)
unfoldable pub message_offer : (m : Bytes) (read : Message) → Offer
message_offer m (read.Refused number) = offers.Refused number
message_offer m (read.Read exchange count) = if eqb (length (sa_from count 0 m)) 0 then offers.Refused 16 otherwise offers.Readable exchange count

unfoldable pub book_offer : (m : Bytes) (read : Book) → Offer
book_offer m (books.Refused number) = offers.Refused number
book_offer m (books.Lawful main quick) = message_offer m (message m)

unfoldable pub offered : (book m : Bytes) → Offer
offered book m = book_offer m (book_read book)

-- whether set, proposal and transform are there, each counted from 0
unfoldable pub is_place : (body : Bytes) (at : Places) → Bool
is_place body at =
    ltb at.set (set_count body) && ltb at.proposal (proposal_count (set at.set body))
    && ltb at.transform (transform_count (proposal at.proposal (set at.set body)))

-- the cause at these places of an SA payload's body, and of the exchange's lines
unfoldable pub cause_in : (exchange : ℕ) (book body : Bytes) (at : Places) → Why
cause_in exchange book body at =
    if leb (line_count exchange book) at.line then NoSuchPlace
    otherwise if not (is_place body at) then NoSuchPlace
    otherwise if not (protocols_suit exchange at.line book (set at.set body)) then Protocols
    otherwise Transform (transform_cause exchange at.line book (protocol (proposal at.proposal (set at.set body)))
    (transform at.transform (proposal at.proposal (set at.set body))))

unfoldable pub offer_cause : (book m : Bytes) (at : Places) (read : Offer) → Why
offer_cause book m at (offers.Refused number) = Refused number
offer_cause book m at (offers.Readable exchange count) = cause_in exchange book (sa_from count 0 m) at

unfoldable pub why : (book m : Bytes) (at : Places) → Why
why book m at = offer_cause book m at (offered book m)

-- ---- what the answers say, by number and values

unfoldable pub offer_answer : (offer : Offer) → Answer
offer_answer (offers.Refused number) = refused number
offer_answer (offers.Readable exchange count) = done (exchange ∷ count ∷ [])

unfoldable pub why_answer : (said : Why) → Answer
why_answer (Refused number) = refused number
why_answer NoSuchPlace = done (1 ∷ [])
why_answer Protocols = done (2 ∷ [])
why_answer (Transform cause) = done (3 ∷ cause_values cause)
