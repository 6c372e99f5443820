-- What other languages call, in the words of include/tallowbrim.h: "After a refusal nothing that was lent has changed." The words of every
-- call; a buffer, a table and a record beside them. And that every record that is lent is encoded to what decodes to it again.
use Rattle.std.specs.Prelude.{ℕ, ◌*◌, ◌<◌, ◌≡◌, List, [], Bool, length, eqb, ltb, leb}
use Rattle.std.proofs.Math.Path.{refl}
use Rattle.std.proofs.Common.{sym, ap, ◌∙◌}
use Rattle.std.proofs.Math.Bool.{true, false}
use Rattle.wire_read.specs.Wire.{Bytes}
use Rattle.wire_read.specs.Answer.{Answer, refused}
use Rattle.wire_read.proofs.Tests.{clash, by_test}
use Rattle.port4500.specs.Port.{datagram, datagram_answer}
use Rattle.port4500.specs.Port.{Datagram}
use Rattle.port4500.specs.Port as datagrams
use Rattle.message_chain.specs.Message.{message, message_answer}
use Rattle.message_chain.specs.Message.{Message}
use Rattle.message_chain.specs.Message as messages
use Rattle.policy_book.specs.Book.{book_read, book_answer}
use Rattle.policy_book.specs.Book.{Book}
use Rattle.policy_book.specs.Book as books
use Rattle.sa_sets.specs.Sets.{set_numbered}
use Rattle.policy_choice.specs.Choice.{choice, sa_from}
use Rattle.policy_choice.specs.Choice.{Choice}
use Rattle.policy_choice.specs.Choice as choices
use Rattle.policy_choice.specs.declared.Transforms.TheVariants.{One, Two}
use Rattle.policy_reply.specs.Reply.{replied, reply_answer, choice_replied, set_replied, spis_low}
use Rattle.policy_reply.specs.Reply.{Outcome}
use Rattle.policy_reply.specs.Reply as outcomes
use Rattle.policy_why.specs.Why.{why, why_answer, message_offer}
use Rattle.policy_why.specs.Why.{Why}
use Rattle.policy_why.specs.Why as whys
use Rattle.policy_why.specs.Offer.{Offer}
use Rattle.policy_why.specs.Offer as offers
use Rattle.policy_why.specs.declared.Places.{Places}
use Rattle.sequence_record.specs.Receive.{judged, verdict_answer}
use Rattle.sequence_record.specs.declared.Receive.{Receive}
use Rattle.sequence_table.specs.Table.{Table, rooms, words as table_words, entry_at, put_entry, added, removed, packet, next_to_send, loss, sending_answer, counted_answer}
use Rattle.sequence_table.specs.declared.table.Key.{Key}
use Rattle.sequence_table.specs.declared.table.Entry.{Entry}
use Rattle.sequence_table.specs.Sending.{Sending}
use Rattle.sequence_table.specs.Sending as sendings
use Rattle.sequence_table.specs.Counted.{Counted}
use Rattle.sequence_table.specs.Counted as counts
use Rattle.sequence_table.proofs.Laws.{entry_put}
use Rattle.sequence_history.specs.History.{is_done, answered, adds, removes, shows, sends}
use Rattle.sequence_history.proofs.Record.{judged-refused}
use Rattle.sequence_history.proofs.Ways.{refused-nothing}
use Rattle.capture_header.specs.Headers.{file_header, file_header_answer, record_header, record_header_answer}
use Rattle.capture_header.specs.FileHeader.{FileHeader}
use Rattle.capture_header.specs.FileHeader as files
use Rattle.capture_header.specs.RecordHeader.{RecordHeader}
use Rattle.capture_header.specs.RecordHeader as records
use Rattle.wire_write.specs.Put.{paste}
use Rattle.quick_end.specs.Fresh.{Made}
use Rattle.quick_end.specs.declared.Progress.{Progress}
use Rattle.quick_end.specs.declared.End.{End}
use Rattle.quick_step.specs.Steps.{StepAnswer}
use Rattle.quick_step.specs.Steps.{Send, Nothing, Refused}
use Rattle.quick_step.specs.Steps.{After, step_answer}
use Rattle.quick_begin.specs.Begin.{begun}
use Rattle.quick_tick.specs.Tick.{ticked}
use Rattle.quick_deliver.specs.Deliver.{delivered}
use Rattle.promises.specs.Quick.{Unchanged, begin-refused, tick-refused, delivery-refused}
use Rattle.promises.specs.Rises.{refused_carries_nothing}
use Rattle.promises.specs.PlainWindow.{plain-refused-nothing}
use Rattle.exports_end.specs.Ends.{progress_of, end_of, progress_bytes, end_bytes}
use Rattle.exports_end.proofs.EndLaws.{HeldProgress, HeldEnd, progress_again}
use Rattle.exports_end.proofs.EndLaws as EndLaws
use Rattle.exports_quick.specs.Called.{fresh_called, called, finished, end_after, agreed_answer}
use Rattle.exports_words.specs.Given.{words, left, given}
use Rattle.exports_reading.specs.Payloads.{payload_answer, read_payload}
use Rattle.exports_policy.specs.Choices.{chosen_answer}
use Rattle.exports_policy.specs.Replies.{reply_given}
use Rattle.exports_policy.proofs.ChoiceLaws as ChoiceLaws
use Rattle.exports_why.specs.Places.{place_answer, offer_place}
use Rattle.sequence_plain.specs.Plain.{PlainList, plain_step}
use Rattle.exports_sequence.specs.Records.{receive_of, receive_words, stepped, plain_given, outcome_given, verdict_given, sending_given}
use Rattle.exports_sequence.proofs.RecordLaws as RecordLaws
use Rattle.exports_capture.specs.Orders.{order_of}

-- ---- the words of a call

-- what is refused has no values, and leaves the words as they were
abbrev Refuses : (a : Answer) → Type 0
Refuses a = is_done a ≡ false → a.values ≡ []

words-kept : (n : ℕ) (a : Answer) (out : List ℕ) → Refuses a → is_done a ≡ false → (given n a out).1 ≡ out
unfolding given left
words-kept n a out refuses h = rw (refuses h)

of-datagram : (d : Datagram) → Refuses (datagram_answer d)
unfolding datagram_answer
of-datagram datagrams.Keepalive h = clash (sym h)
of-datagram (datagrams.KeyExchange start size) h = clash (sym h)
of-datagram (datagrams.Esp size) h = clash (sym h)
of-datagram (datagrams.Refused number) h = refl

of-message : (r : Message) → Refuses (message_answer r)
unfolding message_answer
of-message (messages.Refused number) h = refl
of-message (messages.Read exchange count) h = clash (sym h)

of-payload : (place : ℕ) (m : Bytes) (r : Message) → Refuses (read_payload place m r)
unfolding read_payload
of-payload place m (messages.Refused number) h = refl
of-payload place m (messages.Read exchange count) h =
    by_test (leb count place) (λ past. rw past) (λ there. let is : true ≡ false = (rw there at h) in clash (sym is))

of-book : (b : Book) → Refuses (book_answer b)
unfolding book_answer
of-book (books.Refused number) h = refl
of-book (books.Lawful main quick) h = clash (sym h)

of-choice : (c : Choice) → Refuses (chosen_answer c)
unfolding chosen_answer
of-choice (choices.Refused number) h = refl
of-choice (choices.Chosen set line (One t)) h = clash (sym h)
of-choice (choices.Chosen set line (Two t u)) h = clash (sym h)

of_reply : (o : Outcome) → Refuses (reply_answer o)
unfolding reply_answer
of_reply (outcomes.Refused number) h = refl
of_reply (outcomes.Written size) h = clash (sym h)

of-why : (w : Why) → Refuses (why_answer w)
unfolding why_answer
of-why (whys.Refused number) h = refl
of-why whys.NoSuchPlace h = clash (sym h)
of-why whys.Protocols h = clash (sym h)
of-why (whys.Transform cause) h = clash (sym h)

of-place : (m : Bytes) (at : Places) (o : Offer) → Refuses (offer_place m at o)
unfolding offer_place
of-place m at (offers.Refused number) h = refl
of-place m at (offers.Readable exchange count) h = clash (sym h)

of-sending : (s : Sending) → Refuses (sending_answer s)
unfolding sending_answer
of-sending (sendings.Number n) h = clash (sym h)
of-sending (sendings.Refused number) h = refl

of_counted : (c : Counted) → Refuses (counted_answer c)
unfolding counted_answer
of_counted (counts.Line l) h = clash (sym h)
of_counted (counts.Refused number) h = refl

of_file : (f : FileHeader) → Refuses (file_header_answer f)
unfolding file_header_answer
of_file (files.Read order) h = clash (sym h)
of_file (files.Refused number) h = refl

of_record : (r : RecordHeader) → Refuses (record_header_answer r)
unfolding record_header_answer
of_record (records.Read seconds microseconds captured original) h = clash (sym h)
of_record records.CutShort h = clash (sym h)
of_record (records.Refused number) h = refl

of_agreed : (p : Progress) → Refuses (agreed_answer p)
unfolding agreed_answer
of_agreed p h = by_test (eqb p.gotsize 0) (λ none. rw none) (λ some. let is : true ≡ false = (rw some at h) in clash (sym is))

module _ (out : List ℕ) where
  pub datagram-refused : (s : Bytes) → is_done (datagram_answer (datagram s)) ≡ false → (given 3 (datagram_answer (datagram s)) out).1 ≡ out
  datagram-refused s = words-kept 3 _ out (of-datagram (datagram s))

  pub message-refused : (m : Bytes) → is_done (message_answer (message m)) ≡ false → (given 2 (message_answer (message m)) out).1 ≡ out
  message-refused m = words-kept 2 _ out (of-message (message m))

  pub payload-refused : (place : ℕ) (m : Bytes) → is_done (payload_answer place m) ≡ false → (given 3 (payload_answer place m) out).1 ≡ out
  unfolding payload_answer
  payload-refused place m = words-kept 3 _ out (of-payload place m (message m))

  pub book-refused : (book : Bytes) → is_done (book_answer (book_read book)) ≡ false → (given 2 (book_answer (book_read book)) out).1 ≡ out
  book-refused book = words-kept 2 _ out (of-book (book_read book))

  pub choose-refused : (book m : Bytes) → is_done (chosen_answer (choice book m)) ≡ false → (given 5 (chosen_answer (choice book m)) out).1 ≡ out
  choose-refused book m = words-kept 5 _ out (of-choice (choice book m))

  pub cause_refused : (book m : Bytes) (at : Places) → is_done (why_answer (why book m at)) ≡ false → (given 5 (why_answer (why book m at)) out).1 ≡ out
  cause_refused book m at = words-kept 5 _ out (of-why (why book m at))

  pub place-refused : (m : Bytes) (at : Places) → is_done (place_answer m at) ≡ false → (given 4 (place_answer m at) out).1 ≡ out
  unfolding place_answer
  place-refused m at = words-kept 4 _ out (of-place m at (message_offer m (message m)))

  pub agreed_refused : (end : Bytes) → is_done (agreed_answer (progress_of end)) ≡ false → (given 10 (agreed_answer (progress_of end)) out).1 ≡ out
  agreed_refused end = words-kept 10 _ out (of_agreed (progress_of end))

  pub loss-refused : (t : Table) (key : Key) → is_done (counted_answer (loss t key)) ≡ false → (given 3 (counted_answer (loss t key)) out).1 ≡ out
  loss-refused t key = words-kept 3 _ out (of_counted (loss t key))

  pub file_header-refused : (s : Bytes) → is_done (file_header_answer (file_header s)) ≡ false → (given 1 (file_header_answer (file_header s)) out).1 ≡ out
  file_header-refused s = words-kept 1 _ out (of_file (file_header s))

  pub record_header-refused : (order : ℕ) (s : Bytes) → is_done (record_header_answer (record_header (order_of order) s)) ≡ false →
      (given 5 (record_header_answer (record_header (order_of order) s)) out).1 ≡ out
  record_header-refused order s = words-kept 5 _ out (of_record (record_header (order_of order) s))

-- ---- a buffer, a table and a record beside them

module _ (ah esp : ℕ) (m buffer : Bytes) where
  abbrev Same : (r : Outcome × Bytes) → Type 0
  Same r = is_done (reply_answer r.0) ≡ false → r.1 ≡ buffer

  choice-kept : (c : Choice) → Same (choice_replied ah esp m c buffer)
  unfolding choice_replied set_replied reply_answer
  choice-kept (choices.Refused number) h = refl
  choice-kept (choices.Chosen number line transforms) h =
      by_test (spis_low ah esp transforms (set_numbered number (sa_from 32 0 m)))
      (λ low. rw low)
      (λ high. let is : true ≡ false = (rw high at h) in clash (sym is))

  buffer-kept : (book : Bytes) → Same (replied book m ah esp buffer)
  unfolding replied reply_answer
  buffer-kept book h =
      by_test (ltb (length buffer) 2048)
      (λ small. rw small)
      (λ room. rw room (choice-kept (choice book m) (rw room at h)))

  pub reply_refused_lem : (book : Bytes) (out : List ℕ) → is_done (reply_answer (replied book m ah esp buffer).0) ≡ false →
      reply_given (replied book m ah esp buffer) out ≡ (((reply_answer (replied book m ah esp buffer).0).number, out), buffer)
  unfolding reply_given given left
  reply_refused_lem book out h = rw (buffer-kept book h, of_reply (replied book m ah esp buffer).0 h)

module _ (t : Table) where
  pub add_refused : (key : Key) → eqb (outcome_given (added t key)).0 0 ≡ false → (outcome_given (added t key)).1 ≡ t
  unfolding outcome_given answered
  add_refused key h = refused-nothing t (adds key) h

  pub remove_refused : (key : Key) → eqb (outcome_given (removed t key)).0 0 ≡ false → (outcome_given (removed t key)).1 ≡ t
  unfolding outcome_given answered
  remove_refused key h = refused-nothing t (removes key) h

  pub packet-refused : (destination protocol : ℕ) (integrity : Bool) (s : Bytes) (out : List ℕ) →
      is_done (verdict_answer (packet t destination protocol integrity s).0) ≡ false →
      verdict_given (packet t destination protocol integrity s) out ≡ (((verdict_answer (packet t destination protocol integrity s).0).number, out), t)
  unfolding verdict_given answered given left
  packet-refused destination protocol integrity s out h =
      let kept : (packet t destination protocol integrity s).1 ≡ t = refused-nothing t (shows destination protocol integrity s) h in
      let none = refused_carries_nothing (packet t destination protocol integrity s).0 h in
      rw (kept, none)

  pub send_refused : (key : Key) (out : List ℕ) → is_done (sending_answer (next_to_send t key).0) ≡ false →
      sending_given (next_to_send t key) out ≡ (((sending_answer (next_to_send t key).0).number, out), t)
  unfolding sending_given answered given left
  send_refused key out h =
      let kept : (next_to_send t key).1 ≡ t = refused-nothing t (sends key) h in
      let none = of-sending (next_to_send t key).0 h in
      rw (kept, none)

pub step-refused : (receive : List ℕ) → length receive ≡ 2 → (number : ℕ) (integrity : Bool) (out : List ℕ) →
    is_done (verdict_answer (judged (receive_of receive) number integrity).verdict) ≡ false →
    stepped (judged (receive_of receive) number integrity) out
    ≡ (((verdict_answer (judged (receive_of receive) number integrity).verdict).number, out), receive)
unfolding stepped given left
step-refused receive two number integrity out h =
    let kept : receive_words (judged (receive_of receive) number integrity).receive ≡ receive =
    ap receive_words (judged-refused (receive_of receive) number integrity h) ∙ RecordLaws.words_again receive two in
    let none = refused_carries_nothing (judged (receive_of receive) number integrity).verdict h in
    rw (kept, none)

pub plain-step-refused : (list : PlainList) (number : ℕ) (integrity : Bool) (out : List ℕ) → is_done (plain_step list number integrity).0 ≡ false →
    plain_given (plain_step list number integrity) out ≡ (((plain_step list number integrity).0.number, out), list)
unfolding plain_given given left
plain-step-refused list number integrity out h = let kept = plain-refused-nothing list number integrity h in rw (kept.0, kept.1)

-- ---- an end and its buffers

pub fresh-refused : (end : Bytes) (made : Made) → eqb made.number 0 ≡ false → fresh_called end made ≡ (made.number, end)
unfolding fresh_called
fresh-refused end made h = rw h

module _ (end sent got output : Bytes) (out : List ℕ) where
  -- a call on a lent end that was refused: the number, and all that was lent as it was
  abbrev Kept : (number : ℕ) (after : After) → Type 0
  Kept number after = called end out after ≡ record { number = number; end = end; out = out; sent = sent; got = got; output = output }

  kept_by : (after : After) → Unchanged (end_of end) sent got output after → (number : ℕ) → step_answer after.step.answer ≡ refused number →
      Kept number after
  unfolding called finished end_after step_answer left
  kept_by after left number h = rw (left.as_it_was number h)

  pub lent-begin-refused : (id : ℕ) (first second : Bytes) (number : ℕ) →
      step_answer (begun (end_of end) id first second sent got output).step.answer ≡ refused number →
      Kept number (begun (end_of end) id first second sent got output)
  lent-begin-refused id first second = kept_by _ (begin-refused (end_of end) sent got output id first second)

  pub lent-deliver-refused : (holds : Bool) (m : Bytes) (number : ℕ) →
      step_answer (delivered (end_of end) holds m sent got output).step.answer ≡ refused number →
      Kept number (delivered (end_of end) holds m sent got output)
  lent-deliver-refused holds m = kept_by _ (delivery-refused (end_of end) sent got output m holds)

  pub lent-tick-refused : (number : ℕ) → step_answer (ticked (end_of end) sent got output).step.answer ≡ refused number →
      Kept number (ticked (end_of end) sent got output)
  lent-tick-refused = kept_by _ (tick-refused (end_of end) sent got output)

  -- what a call on a lent end leaves there is the end that the call by value leaves, where its numbers fit their types
  abbrev Decodes : (after : After) → Type 0
  Decodes after = length end ≡ 398 → HeldProgress after.step.end.progress → end_of (called end out after).end ≡ after.step.end

  written-end : (after : After) → after.step.end.own ≡ (end_of end).own → length end ≡ 398 → HeldProgress after.step.end.progress →
      end_of (paste end 0 (progress_bytes after.step.end.progress)) ≡ after.step.end
  written-end after own long held = progress_again after.step.end.progress held end long ∙ rw (← own)

  decoded : (after : After) → Unchanged (end_of end) sent got output after → (answer : StepAnswer) → after.step.answer ≡ answer → Decodes after
  unfolding called finished end_after step_answer
  decoded after left (Send size) is long held = rw is (written-end after left.own-kept long held)
  decoded after left Nothing is long held = rw is (written-end after left.own-kept long held)
  decoded after left (Refused number) is long held =
      let same = left.as_it_was number (rw is) in rw is (ap (λ (a : After). a.step.end) (sym same))

  pub lent-begin : (id : ℕ) (first second : Bytes) → Decodes (begun (end_of end) id first second sent got output)
  lent-begin id first second = decoded _ (begin-refused (end_of end) sent got output id first second) _ refl

  pub lent-deliver : (holds : Bool) (m : Bytes) → Decodes (delivered (end_of end) holds m sent got output)
  lent-deliver holds m = decoded _ (delivery-refused (end_of end) sent got output m holds) _ refl

  pub lent-tick : Decodes (ticked (end_of end) sent got output)
  lent-tick = decoded _ (tick-refused (end_of end) sent got output) _ refl

-- ---- "Every end and every table entry encodes to words that decode to it again"

pub end_again : (end : End) → HeldEnd end → (lent : Bytes) → length lent ≡ 398 → end_of (paste lent 0 (end_bytes end)) ≡ end
end_again = EndLaws.end_again

pub entry_again : (t : Table) (room : ℕ) (entry : Entry) → length t ≡ rooms * table_words → room < rooms → entry_at (put_entry t room entry) room ≡ entry
entry_again t room entry long here = entry_put t room entry long here

pub receive_again : (r : Receive) → receive_of (receive_words r) ≡ r
receive_again = RecordLaws.receive_again

-- No two choices are given alike: one transform is not taken for two.
pub choice-told : (a b : Choice) → (chosen_answer a).number ≡ (chosen_answer b).number →
    words 5 (chosen_answer a).values ≡ words 5 (chosen_answer b).values → a ≡ b
choice-told = ChoiceLaws.chosen_distinct
