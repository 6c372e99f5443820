-- Every reply reads back (specs/Reply.antt says what that is): `reply_reads_back`, at the end.
use Prim.Native.Nat.{ℕ, zero, suc, ◌+◌, ◌-◌, ◌≤◌, ◌<◌}
use Rattle.std.specs.Prelude.{◌≡◌, refl, true, false, get_or, take, drop, eqb}
use Rattle.std.proofs.Math.Path.{sym, ap}
use Rattle.std.proofs.Common.{◌∙◌, ⊎_elim, length-drop, take_at, drop_at, take-add, drop-drop, get_or-drop}
use mathlib.Core.List.{[], ◌∷◌, ◌++◌, append_assoc}
use native.Mathlib.Omega.{arith}
use Rattle.std.proofs.Math.ListN.{length, length-append, get_or-append}
use Rattle.std.proofs.Math.Seq.{length-take-le}
use borrow.Author.Tests.{eq-eqb, ne_eqb, le-ltb}
use Rattle.wire_read.specs.Wire.{Bytes, number_at, next_field, reserved_field, length_field}
use Rattle.wire_read.specs.Answer.{done}
use Rattle.wire_write.specs.Put.{bytes_of}
use Rattle.wire_read.proofs.Tests.{by_test, passed}
use Rattle.wire_read.proofs.Laws.{number-drop, number-take, number_append, number-append_add}
use Rattle.wire_write.proofs.Laws.{length_bytes_of, number-bytes_of, paste_inside, drop-paste}
use Rattle.message_header.specs.Header.{exchange_of, flags_of, first_payload, version_of, message_id_of, header_length, length_wrong, major_wrong, minor_wrong, exchange_refused, exchange_unknown, flags_wrong, cookie_zero, message_id_wrong, flagged_length_wrong, no_payload, header_code}
use Rattle.message_header.proofs.Laws as headers
use Rattle.message_chain.specs.Message.{message, message_answer}
use Rattle.message_chain.specs.Message.{Read}
use Rattle.message_chain.proofs.Laws.{reading-header, read_as, one_sa_reads}
use Rattle.sa_proposals.specs.Proposals.{offer_code}
use Rattle.sa_fields.specs.Fields.{protocol}
use Rattle.sa_sets.specs.Sets.{set, set_numbered}
use Rattle.sa_items.specs.Items.{proposal, proposal_count}
use Rattle.sa_fields.specs.declared.ProposalNumber.{ProposalNumber}
use Rattle.sa_fields.specs.declared.TransformNumber.{TransformNumber}
use Rattle.policy_suits.specs.Suits.{lowest, protocols_suit}
use Rattle.policy_choice.specs.Choice.{number_of, transforms_of, sa_from, choice, choice_answer}
use Rattle.policy_reply.specs.Reply.{sa_of, set_reply, spis_low, replied, reply_answer}
use Rattle.policy_lines.specs.declared.LineNumber.{LineNumber}
use Rattle.policy_choice.specs.declared.Transforms.{Transforms}
use Rattle.policy_choice.specs.Choice.{Chosen}
use Rattle.sa_proposals.proofs.Known.{Known, isakmp, ah-of, esp-of, known_of}
use Rattle.policy_suiting.proofs.SuitLaws.{chosen_in, taken, shape}
use Rattle.policy_choice.proofs.ChoiceLaws.{Chose, chose_says, sa_in_front}
use Rattle.policy_reply.proofs.ReplyLaws.{Repeats, choice-repeats, choice-short, choice-written, sa_lies, sa_long, sa_begins}
use Rattle.promises.specs.Payloads as payloads
use Rattle.promises.specs.Choice as choices
use Rattle.promises.specs.Reply.{chosen_number, Repeated, ReadsBack, Around, header_for, TheReply}

not_five : {exchange wanted : ℕ} → Known exchange wanted → exchange ≡ 5 → ⊥
not_five isakmp e = omega arith
not_five ah-of e = omega arith
not_five esp-of e = omega arith

-- the numbers that the choice names are those of the transforms that it takes
module _ (exchange i : ℕ) (book s : Bytes) where
  abbrev number_in : (j : ℕ) → TransformNumber
  number_in j = number_of (lowest exchange i book (proposal j s)) (proposal j s)

  number-at : (j : ℕ) → j < 2 → j < proposal_count s → chosen_number (transforms_of exchange i book s) j ≡ number_in j
  unfolding transforms_of chosen_number
  number-at zero h l = by_test (eqb (proposal_count s) 1) (λ e. rw e) (λ e. rw e)
  number-at (suc zero) h l = rw (ne_eqb (proposal_count s) 1 (λ e. omega arith))
  number-at (suc (suc j)) h l = absurd (omega arith)

  at_most_two : protocols_suit exchange i book s ≡ true → proposal_count s ≤ 2
  at_most_two h = ⊎_elim (λ e. omega arith) (λ p. omega (arith, p.two)) (shape s exchange i book h)

-- ---- the offer's header around a reply

-- a header with the same cookies, version, exchange and message ID, no flag, and some payload
record Alike (m n : Bytes) : Type 0 where
  cookies : take 8 n ≡ take 8 m
  cookies_too : take 8 (drop 8 n) ≡ take 8 (drop 8 m)
  some : first_payload n ≡ 1
  version : version_of n ≡ version_of m
  same : exchange_of n ≡ exchange_of m
  flag : flags_of n ≡ 0
  id : message_id_of n ≡ message_id_of m
  right : length_wrong n ≡ false

alike-lawful : (m n : Bytes) → Alike m n → header_code m ≡ 0 → header_code n ≡ 0
unfolding header_code major_wrong minor_wrong exchange_refused exchange_unknown flags_wrong cookie_zero message_id_wrong flagged_length_wrong no_payload
alike-lawful m n a h =
    let long = passed (length_wrong m) 30 _ (λ z. omega arith) h in
    let major = passed (major_wrong m) 5 _ (λ z. omega arith) long.1 in
    let minor = passed (minor_wrong m) 6 _ (λ z. omega arith) major.1 in
    let past = passed (exchange_refused m) 29 _ (λ z. omega arith) minor.1 in
    let known = passed (exchange_unknown m) 7 _ (λ z. omega arith) past.1 in
    let flags = passed (flags_wrong m) 8 _ (λ z. omega arith) known.1 in
    let cookie = passed (cookie_zero m) 4 _ (λ z. omega arith) flags.1 in
    let id = passed (message_id_wrong m) 9 _ (λ z. omega arith) cookie.1 in
    rw (a.right, a.cookies, a.cookies_too, a.some, a.version, a.same, a.flag, a.id, major.0, minor.0, past.0, known.0, cookie.0, id.0)

module _ (m payload : Bytes) (long : 28 ≤ length m) (few : length payload ≤ 8164) where
  abbrev size : ℕ
  size = 28 + length payload

  abbrev made : Bytes
  made = header_for m size ++ payload

  abbrev fields : Bytes
  fields = 1 ∷ version_of m ∷ exchange_of m ∷ 0 ∷ []

  abbrev last : Bytes
  last = (take 4 (drop 20 m) ++ bytes_of 4 size) ++ payload

  cookie_long : length (take 8 m) ≡ 8
  cookie_long = length-take-le 8 m (omega arith)

  cookie_too_long : length (take 8 (drop 8 m)) ≡ 8
  cookie_too_long = length-take-le 8 (drop 8 m) (omega (arith, length-drop 8 m))

  id-long : length (take 4 (drop 20 m)) ≡ 4
  id-long = length-take-le 4 (drop 20 m) (omega (arith, length-drop 20 m))

  made-is : made ≡ take 8 m ++ (take 8 (drop 8 m) ++ (fields ++ last))
  unfolding header_for
  made-is =
      append_assoc (take 16 m) _ payload ∙ ap (λ (l : Bytes). l ++ (fields ++ last)) (take-add 8 8 m)
      ∙ append_assoc (take 8 m) (take 8 (drop 8 m)) (fields ++ last)

  after_cookie : drop 8 made ≡ take 8 (drop 8 m) ++ (fields ++ last)
  after_cookie = ap (drop 8) made-is ∙ drop_at (take 8 m) _ 8 cookie_long

  after-cookies : drop 16 made ≡ fields ++ last
  after-cookies = sym (drop-drop 8 8 made) ∙ ap (drop 8) after_cookie ∙ drop_at (take 8 (drop 8 m)) (fields ++ last) 8 cookie_too_long

  field : (k : ℕ) → get_or made (16 + k) 0 ≡ get_or (fields ++ last) k 0
  field k = sym (get_or-drop 16 made k 0) ∙ ap (λ (l : Bytes). get_or l k 0) after-cookies

  number_in_last : (k : ℕ) → number_at 4 made (16 + (4 + k)) ≡ number_at 4 last k
  number_in_last k = sym (number-drop 4 16 made (4 + k)) ∙ ap (λ (l : Bytes). number_at 4 l (4 + k)) after-cookies ∙ number-append_add 4 fields last k

  made-id : message_id_of made ≡ message_id_of m
  made-id =
      number_in_last 0
      ∙ number_append 4 (take 4 (drop 20 m) ++ bytes_of 4 size) payload 0 (omega (arith, id-long, length-append (take 4 (drop 20 m)) (bytes_of 4 size)))
      ∙ number_append 4 (take 4 (drop 20 m)) (bytes_of 4 size) 0 (omega (arith, id-long)) ∙ number-take 4 4 (drop 20 m) 0 (omega arith) ∙ number-drop 4 20 m 0

  made-size : header_length made ≡ size
  made-size =
      number_in_last 4
      ∙ number_append 4 (take 4 (drop 20 m) ++ bytes_of 4 size) payload 4
      (omega (arith, id-long, length_bytes_of 4 size, length-append (take 4 (drop 20 m)) (bytes_of 4 size)))
      ∙ ap (λ (k : ℕ). number_at 4 (take 4 (drop 20 m) ++ bytes_of 4 size) k) (omega (arith, id-long))
      ∙ number-append_add 4 (take 4 (drop 20 m)) (bytes_of 4 size) 0 ∙ number-bytes_of 4 size (omega arith)

  header-long : length (header_for m size) ≡ 28
  unfolding header_for
  header-long =
      omega (
        arith,
        length-append (take 16 m) (fields ++ (take 4 (drop 20 m) ++ bytes_of 4 size)),
        length-take-le 16 m (omega arith),
        length-append (take 4 (drop 20 m)) (bytes_of 4 size),
        id-long,
        length_bytes_of 4 size,
      )

  made-long : length made ≡ size
  made-long = length-append (header_for m size) payload ∙ omega (arith, header-long)

  made-right : length_wrong made ≡ false
  unfolding length_wrong
  made-right = rw (made-size, made-long, le-ltb size 28 (omega arith), le-ltb 8192 size (omega arith), eq-eqb size size refl)

  alike : Alike m made
  alike = record {
    cookies = ap (take 8) made-is ∙ take_at (take 8 m) _ 8 cookie_long;
    cookies_too = ap (take 8) after_cookie ∙ take_at (take 8 (drop 8 m)) (fields ++ last) 8 cookie_too_long;
    some = field 0;
    version = field 1;
    same = field 2;
    flag = field 3;
    id = made-id;
    right = made-right;
  }

  in_header : (k : ℕ) → k < 28 → get_or (header_for m size) k 0 ≡ get_or made k 0
  in_header k h = sym (get_or-append (header_for m size) payload 0 k (omega (arith, header-long)))

  around : (exchange count : ℕ) → message m ≡ Read exchange count → Around exchange payload (header_for m size)
  around exchange count readable =
      let r = read_as m exchange count readable in
      record {
        header = header-long;
        lawful = alike-lawful m made alike (reading-header m r.found r.is);
        an_sa = in_header 16 (omega arith) ∙ field 0;
        same-exchange = in_header 18 (omega arith) ∙ field 2 ∙ r.same-exchange;
        plain = in_header 19 (omega arith) ∙ field 3;
      }

readable-long : (m : Bytes) (exchange count : ℕ) → message m ≡ Read exchange count → 28 ≤ length m
readable-long m exchange count readable =
    let r = read_as m exchange count readable in
    headers.header-long m (reading-header m r.found r.is)

-- ---- the message around a payload, whose body reads

module _ (exchange : ℕ) (payload h : Bytes) (a : Around exchange payload h) where
  behind : drop 28 (h ++ payload) ≡ payload
  behind = drop_at h payload 28 a.header

  byte : (k : ℕ) → k < 28 → get_or (h ++ payload) k 0 ≡ get_or h k 0
  byte k l = get_or-append h payload 0 k (omega (arith, a.header))

  module _ (lies : length_field payload ≡ length payload) where
    sa_is : sa_from 1 0 (h ++ payload) ≡ drop 4 payload
    sa_is = sa_in_front (h ++ payload) (byte 16 (omega arith) ∙ a.an_sa) (rw behind lies) ∙ ap (drop 4) behind

    message-reads : (exchange ≡ 5 → ⊥) → 4 ≤ length payload → next_field payload ≡ 0 → reserved_field payload ≡ 0 → offer_code exchange (drop 4 payload) ≡ 0 →
        message_answer (message (h ++ payload)) ≡ done (exchange ∷ 1 ∷ [])
    unfolding message_answer
    message-reads other long last reserved reads =
        let same : exchange_of (h ++ payload) ≡ exchange = byte 18 (omega arith) ∙ a.same-exchange in
        let body : offer_code (exchange_of (h ++ payload)) (drop 4 (drop 28 (h ++ payload))) ≡ 0 =
        ap (λ (x : ℕ). offer_code x (drop 4 (drop 28 (h ++ payload)))) same ∙ (rw behind reads) in
        ap message_answer (one_sa_reads (h ++ payload) a.lawful (byte 16 (omega arith) ∙ a.an_sa) (byte 19 (omega arith) ∙ a.plain)
        (λ e. other (sym same ∙ e)) (rw behind long) (rw behind last) (rw behind reserved) (rw behind lies) body)
        ∙ ap (λ (x : ℕ). done (x ∷ 1 ∷ [])) same

module _ (exchange count : ℕ) (book m : Bytes) (number : ProposalNumber) (line : LineNumber) (transforms : Transforms)
    (c : Chose exchange count book m number line transforms) (ah esp : ℕ) (small-ah : ah < 4294967296) (small-esp : esp < 4294967296)
    (low : spis_low ah esp transforms (set_numbered number (sa_from 32 0 m)) ≡ false) where
  abbrev s : Bytes
  s = set c.k (sa_from count 0 m)

  abbrev set_reply_lem : Bytes
  set_reply_lem = set_reply ah esp transforms (set_numbered number (sa_from 32 0 m))

  abbrev payload : Bytes
  payload = sa_of 0 set_reply_lem

  repeats : Repeats exchange ah esp s (λ j. chosen_in exchange c.i book (proposal j s)) (drop 4 payload)
  repeats = choice-repeats exchange count book m number line transforms c ah esp small-ah small-esp low 0

  short : length payload ≤ 148
  short = choice-short exchange count book m number line transforms c ah esp small-ah small-esp low 0

  lies : length_field payload ≡ length payload
  lies = sa_lies 0 set_reply_lem (omega (arith, short))

  repeated : (j : ℕ) → j < proposal_count s → Repeated ah esp number (proposal j s) (chosen_number transforms j) (proposal j (set 0 (drop 4 payload)))
  unfolding number_of
  repeated j h =
      let a = repeats.each j h in
      let t = taken exchange c.i book (proposal j s) (c.lawful.lawful j h) (c.suits.each j h) in
      let few : j < 2 = omega (arith, at_most_two exchange c.i book s c.suits.protocols) in
      record {
        chosen-number = a.same_number ∙ c.lawful.one_number j h ∙ c.its_number;
        same-protocol = a.same-protocol;
        one-transform = a.one-transform;
        place = lowest exchange c.i book (proposal j s) - 1;
        offered = t.0;
        its_number = sym (number-at exchange c.i book s j few h) ∙ ap (λ (x : Transforms). chosen_number x j) (sym c.taken);
        byte_for_byte = a.same-transform;
        own-spi = a.own-spi;
      }

  reads_back : (h : Bytes) → Around exchange payload h → ReadsBack exchange ah esp number transforms s (h ++ payload)
  unfolding protocol
  reads_back h a =
      let sa = sa_is exchange payload h a lies in
      let known = (c.lawful.lawful 0 c.lawful.some).known in
      let begins = sa_begins 0 set_reply_lem in
      let long : 4 ≤ length payload = omega (arith, sa_long 0 set_reply_lem) in
      record {
        readable = message-reads exchange payload h a lies (not_five (known_of exchange _ known)) long begins.0 begins.1 repeats.readable;
        one_set = rw sa repeats.alone;
        as_many = rw sa repeats.as_many;
        each = rw sa repeated;
      }

-- every choice is answered by a reply that reads back: from a message that reads, a buffer with room and own SPIs that may be used
pub reply_reads_back : (book m : Bytes) (exchange count ah esp : ℕ) (number : ProposalNumber) (line : LineNumber) (transforms : Transforms) (buffer : Bytes) →
    message_answer (message m) ≡ done (exchange ∷ count ∷ []) → choice_answer (choice book m) ≡ choice_answer (Chosen number line transforms) →
    2048 ≤ length buffer → ah < 4294967296 → esp < 4294967296 →
    spis_low ah esp transforms (set_numbered number (sa_from count 0 m)) ≡ false →
    TheReply exchange count ah esp m number transforms buffer (replied book m ah esp buffer)
unfolding message_answer reply_answer
reply_reads_back book m exchange count ah esp number line transforms buffer read-so chosen-so room small-ah small-esp high =
    let readable : message m ≡ Read exchange count = payloads.answer-own (message m) (Read exchange count) read-so in
    let chosen : choice book m ≡ Chosen number line transforms = choices.answer-own (choice book m) (Chosen number line transforms) chosen-so in
    let c = chose_says exchange count book m readable number line transforms chosen in
    let low : spis_low ah esp transforms (set_numbered number (sa_from 32 0 m)) ≡ false = rw c.same_sa high in
    let bytes : Bytes = sa_of 0 (set_reply ah esp transforms (set_numbered number (sa_from 32 0 m))) in
    let few : length bytes ≤ 148 = short exchange count book m number line transforms c ah esp small-ah small-esp low in
    rw (choice-written book m buffer ah esp number line transforms chosen room low) (record {
      payload = bytes;
      fits = omega arith;
      answered = refl;
      at_front = paste_inside buffer 0 bytes (omega arith);
      else_kept = drop-paste (length bytes) buffer 0 bytes (omega arith);
      k = c.k;
      offered = c.a_set;
      chosen-set = c.its_number;
      a_header = around m bytes (readable-long m exchange count readable) (omega arith) exchange count readable;
      reads_back = reads_back exchange count book m number line transforms c ah esp small-ah small-esp low;
    })
