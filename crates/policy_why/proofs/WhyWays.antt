-- A law for each way out of the functions that say why.
use Prim.Native.Nat.{ℕ, ◌+◌, ◌≤◌, ◌<◌}
use mathlib.Core.Path.{◌≡◌}
use mathlib.Core.List.{List}
use mathlib.Core.Bool.{Bool, true, false, not, ◌&&◌}
use native.Mathlib.Omega.{arith}
use lib.ListN.{length}
use lib.Dec.{ltb}
use borrow.Author.Tests.{eq-eqb, ne_eqb, le-leb, lt-leb}
use Rattle.std.specs.Prelude.{Option}
use Rattle.message_chain.specs.Message.{message}
use Rattle.message_chain.specs.Message.{Message}
use Rattle.message_chain.specs.Message as read
use Rattle.sa_fields.specs.Fields.{protocol, transform_count}
use Rattle.sa_items.specs.Items.{proposal, proposal_count, transform}
use Rattle.sa_sets.specs.Sets.{set, set_count}
use Rattle.policy_lines.specs.Lines.{place}
use Rattle.policy_lines.specs.declared.LineNumber.{LineNumber}
use Rattle.policy_book.specs.Book.{book_read}
use Rattle.policy_book.specs.Book.{Book}
use Rattle.policy_book.specs.Book as books
use Rattle.policy_suits.specs.Suits.{protocols_suit}
use Rattle.policy_cause.specs.declared.Cause.{Cause}
use Rattle.policy_cause.specs.Causes.{transform_cause}
use Rattle.policy_choice.specs.Choice.{line_count, sa_from}
use Rattle.policy_why.specs.Offer.{Offer}
use Rattle.policy_why.specs.Offer as offers
use Rattle.policy_why.specs.declared.Places.{Places}
use Rattle.policy_why.specs.Why.{Why, Refused, NoSuchPlace, Protocols, Transform, message_offer, book_offer, offered, is_place, cause_in, offer_cause, why}

-- ---- whether there is something to say

module _ (m : List ℕ) where
  pub offer-unread : (number : ℕ) → read.Refused number ≡ message m → offers.Refused number ≡ message_offer m (message m)
  unfolding message_offer
  offer-unread number h = rw (← h)

  module _ (exchange count : ℕ) (readable : read.Read exchange count ≡ message m) (body : List ℕ) (eb : body ≡ sa_from count 0 m) where
    pub offer-empty : length body ≡ 0 → offers.Refused 16 ≡ message_offer m (message m)
    unfolding message_offer
    offer-empty h = rw (← readable, ← eb, eq-eqb (length body) 0 h)

    pub offer-readable : (length body ≡ 0 → ⊥) → offers.Readable exchange count ≡ message_offer m (message m)
    unfolding message_offer
    offer-readable h = rw (← readable, ← eb, ne_eqb (length body) 0 h)

module _ (book m : List ℕ) where
  pub offer-book : (number : ℕ) → books.Refused number ≡ book_read book → offers.Refused number ≡ offered book m
  unfolding offered book_offer
  offer-book number h = rw (← h)

  pub offer-lawful : (main quick : ℕ) → books.Lawful main quick ≡ book_read book → (r : Offer) → r ≡ message_offer m (message m) → r ≡ offered book m
  unfolding offered book_offer
  offer-lawful main quick h r e = rw (← h) e

-- ---- the cause at places

pub place_found : (body s p : List ℕ) (at : Places) (sets proposals transforms : ℕ) → s ≡ set at.set body → p ≡ proposal at.proposal s →
    sets ≡ set_count body → proposals ≡ proposal_count s → transforms ≡ transform_count p →
    (ltb at.set sets && ltb at.proposal proposals && ltb at.transform transforms) ≡ is_place body at
unfolding is_place
place_found body s p at sets proposals transforms es ep en eq et = rw (← es, ← ep, ← en, ← eq, ← et)

module _ (exchange : ℕ) (book body : List ℕ) (at : Places) (lines : ℕ) (el : lines ≡ line_count exchange book) where
  pub no_line : lines ≤ at.line → NoSuchPlace ≡ cause_in exchange book body at
  unfolding cause_in
  no_line h = rw (← el, le-leb lines at.line h)

  module _ (a_line : at.line < lines) (found : Bool) (ef : found ≡ is_place body at) where
    pub no_place : not found ≡ true → NoSuchPlace ≡ cause_in exchange book body at
    unfolding cause_in
    no_place h = rw (← el, lt-leb lines at.line a_line, ← ef, h)

    module _ (a-place : not found ≡ false) (s : List ℕ) (es : s ≡ set at.set body) (line : LineNumber) (en : line.0 ≡ at.line + 1) (suit : Bool)
        (eu : suit ≡ protocols_suit exchange (place line) book s) where
      same_place : place line ≡ at.line
      same_place = omega (arith, en)

      pub other-protocols : not suit ≡ true → Protocols ≡ cause_in exchange book body at
      unfolding cause_in
      other-protocols h = rw (← el, lt-leb lines at.line a_line, ← ef, a-place, ← es, ← same_place, ← eu, h)

      pub its_cause : not suit ≡ false → (p t : List ℕ) (wanted : ℕ) (cause : Option Cause) → p ≡ proposal at.proposal s → t ≡ transform at.transform p →
          wanted ≡ protocol p → cause ≡ transform_cause exchange (place line) book wanted t → Transform cause ≡ cause_in exchange book body at
      unfolding cause_in
      its_cause h p t wanted cause ep et ew ec =
          rw (← el, lt-leb lines at.line a_line, ← ef, a-place, ← es, ← same_place, ← eu, h, ← ep, ← et, ← ew, ← ec)

module _ (book m : List ℕ) (at : Places) where
  pub why-refused : (number : ℕ) → offers.Refused number ≡ offered book m → Refused number ≡ why book m at
  unfolding why offer_cause
  why-refused number h = rw (← h)

  pub why-readable : (exchange count : ℕ) → offers.Readable exchange count ≡ offered book m → (body : List ℕ) → body ≡ sa_from count 0 m → (r : Why) →
      r ≡ cause_in exchange book body at → r ≡ why book m at
  unfolding why offer_cause
  why-readable exchange count h body eb r e = rw (← h, ← eb) e
