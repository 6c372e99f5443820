-- Document 02, "Ten": "replies of our own responder always pass, with no book or with the responder's". Whatever calls a responder gets, and
-- whoever wrote the message 1 that it answers: each message that it writes is accepted against that, which it keeps as got. Shut out: a
-- responder that answers with what was not offered, or not by its own book.
use Rattle.std.specs.Prelude.{ℕ, ◌≤◌, ◌<◌, ◌≡◌, List, false, length, drop}
use Rattle.std.proofs.Common.{sym, ap, ◌∙◌}
use Rattle.wire_read.specs.Wire.{Bytes}
use Rattle.sa_sets.specs.Sets.{set_numbered}
use Rattle.policy_book.specs.Book.{book_read}
use Rattle.policy_book.specs.Book as books
use Rattle.policy_choice.specs.Choice.{choose_from}
use Rattle.policy_choice.specs.Choice.{Chosen}
use Rattle.policy_reply.specs.Reply.{set_reply, sa_of, spis_low}
use Rattle.quick_write.specs.Messages.{book_of}
use Rattle.quick_end.specs.declared.Role.TheVariants.{Responder}
use Rattle.quick_end.specs.declared.Own.{Own}
use Rattle.quick_exchange.specs.Exchange.{Party, FreshEnd, got_of}
use Rattle.quick_exchange.proofs.TakenLaws.{spis_high}
use Rattle.quick_replies.specs.Replies.{Calls, AnswersOne, All, also}
use Rattle.quick_replies.proofs.ReplyLaws.{responder-answers, fresh-book, fresh_spis}
use Rattle.promises.specs.Lawful.{HasSa, body, Passes, own_alone, own-booked}

-- one answer that a responder with a lawful book and SPIs that may be used has written
module _ (own : Own) (high-ah : 256 ≤ own.ah) (small-ah : own.ah < 4294967296) (high-esp : 256 ≤ own.esp) (small-esp : own.esp < 4294967296)
    (main quick : ℕ) (lawful : book_read (book_of own) ≡ books.Lawful main quick) (m n : Bytes) (a : AnswersOne own m n) where
  abbrev the_offer : HasSa m
  the_offer = record { exchange = 32; count = a.offered; readable = a.reads-offer; some = λ z. a.some-offer (sym (ap length a.its_offer) ∙ z) }

  abbrev the_reply : HasSa n
  the_reply = record { exchange = 32; count = a.replied; readable = a.reads_reply; some = a.some_reply }

  answer-passes : Passes (book_of own) m n
  answer-passes =
      let c = a.chooses in
      let chosen : choose_from 32 (book_of own) (body the_offer) ≡ Chosen c.number c.line c.transforms = rw a.its_offer c.chosen in
      let written : body the_reply ≡ drop 4 (sa_of 10 (set_reply own.ah own.esp c.transforms (set_numbered c.number (body the_offer)))) =
      rw a.its_offer a.its_reply in
      let high : spis_low own.ah own.esp c.transforms (set_numbered c.number (body the_offer)) ≡ false =
      spis_high own.ah own.esp high-ah high-esp c.transforms (set_numbered c.number (body the_offer)) in
      record {
        with_no_book = own_alone (book_of own) m n the_offer the_reply c.number c.line c.transforms chosen own.ah own.esp 10 small-ah small-esp
            high written;
        with_the_book = own-booked (book_of own) m n the_offer the_reply c.number c.line c.transforms chosen own.ah own.esp 10 small-ah small-esp
            high written main quick lawful;
      }

each : {P Q : Bytes → Type 0} {log : List Bytes} → ((n : Bytes) → P n → Q n) → All P log → All Q log
each f All.none = All.none
each f (also {m} p rest) = also (f m p) (each f rest)

-- r is as `fresh` has made it, p as it stands after these calls, log all that it has written
pub responder-passes : {r p : Party} {log : List Bytes} {icookie rcookie : ℕ} → FreshEnd Responder icookie rcookie r.end →
    icookie < 18446744073709551616 → rcookie < 18446744073709551616 → Calls r p log → All (Passes (book_of r.end.own) (got_of p)) log
responder-passes {r} {p} f narrow wide calls =
    let (main, quick, lawful) = fresh-book f narrow wide in
    let spis = fresh_spis f narrow wide in
    each (answer-passes r.end.own spis.0 spis.1 spis.2 spis.3 main quick lawful (got_of p)) (responder-answers f narrow wide calls)
