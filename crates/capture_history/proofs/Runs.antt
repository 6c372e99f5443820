-- A whole capture as a run of calls: the table after them, the verdicts among their answers, and the accepted numbers of one key, which has one
-- life, since a capture removes nothing.
use Prim.Native.Nat.{ℕ, ◌*◌}
use mathlib.Core.Path.{◌≡◌, refl, sym, ap, ◌∙◌}
use mathlib.Core.Bool.{Bool, true, false}
use mathlib.Core.List.{List, [], ◌∷◌, ◌++◌}
use lib.ListN.{length}
use lib.Dec.{eqb, ltb}
use Rattle.wire_read.specs.Wire.{Bytes}
use Rattle.wire_read.specs.Answer.{Answer, done, refused}
use Rattle.wire_read.proofs.Tests.{clash, by_test}
use Rattle.sequence_record.specs.Verdict.{Verdict, Accepted, Refused}
use Rattle.sequence_record.specs.Receive.{verdict_answer}
use Rattle.sequence_packet.specs.Packet.{Packet}
use Rattle.sequence_packet.specs.Packet as Packets
use Rattle.sequence_packet.specs.Packets.{known, read}
use Rattle.sequence_table.specs.declared.table.Key.{Key}
use Rattle.sequence_table.specs.Table.{Table, rooms, words, empty}
use Rattle.sequence_history.specs.History.{Call, adds, removes, shows, sends, asks, Event, Deed, begins, ends, accepts, hands, none, same, deed, deed_for, number_read, lives_after, accepted_after, is_done, lives, accepted, right_packet, right, answered, answered_all, right_all, Distinct}
use Rattle.sequence_history.specs.History as History
use Rattle.sequence_history.proofs.Table.{same_true, empty-long}
use Rattle.sequence_history.proofs.Ways.{unread, call_length}
use Rattle.sequence_history.proofs.Runs as History-runs
use Rattle.capture_frame.specs.declared.Addresses.{Addresses}
use Rattle.capture_record.specs.Listed.{Listed}
use Rattle.capture_record.specs.Listing.{spi_of, number_of, least_bytes, key_of, listed_packet, packet_listed, listed}
use Rattle.capture_history.specs.Capture.{ToTable, nothing, ah_or_esp, to_table, lines, table_after, accepted_line, accepted_in, verdict_line, verdicts_in, calls_of, capture_calls, after_calls, verdict_of, verdicts_of}
use Rattle.capture_history.proofs.Packets.{Stays, accepts_it, refuses_it, Way, at_once, begun_first, not-added, way}
use Rattle.capture_history.proofs.Records.{Goes, to_none, to_table_lem, goes}

-- ---- runs in two parts

after_then : (calls more : List Call) (t : Table) → after_calls t (calls ++ more) ≡ after_calls (after_calls t calls) more
unfolding after_calls
after_then [] more t = refl
after_then (c ∷ calls) more t = after_then calls more (answered t c).1

answered_then : (calls more : List Call) (t : Table) {u : Table} → after_calls t calls ≡ u → (past : List Event) →
    answered_all t past (calls ++ more) ≡ answered_all u (answered_all t past calls) more
unfolding after_calls answered_all
answered_then [] more t is past = ap (λ (x : Table). answered_all x past more) is
answered_then (c ∷ calls) more t is past = answered_then calls more (answered t c).1 is _

after-long : (calls : List Call) (t : Table) → length (after_calls t calls) ≡ length t
unfolding after_calls
after-long [] t = refl
after-long (c ∷ calls) t = after-long calls (answered t c).1 ∙ call_length t c

-- the accepted numbers of one key, the last first, whatever lives of it began and ended
abbrev ever_after : (d : Deed) (before : List ℕ) → List ℕ
ever_after begins before = before
ever_after ends before = before
ever_after (accepts number) before = number ∷ before
ever_after (hands number) before = before
ever_after none before = before

unfoldable ever_accepted : (key : Key) (past : List Event) → List ℕ
ever_accepted key [] = []
ever_accepted key (e ∷ past) = ever_after (deed_for key e) (ever_accepted key past)

-- what a run of a record's calls comes to, with the verdict and the table after it and a line that says so
record Comes (t : Table) (calls : List Call) (line : Listed) (after : Table) : Type 0 where
  ends_with : after_calls t calls ≡ after
  numbers : (key : Key) (past : List Event) → ever_accepted key (answered_all t past calls) ≡ accepted_line key line (ever_accepted key past)
  verdicts : (past : List Event) (later : List Answer) → verdicts_of (answered_all t past calls) later ≡ verdicts_of past (verdict_line line later)

-- a call whose answer is no verdict and accepts nothing, and calls behind it
quiet : {t u w : Table} {c : Call} {a : Answer} {more : List Call} {line : Listed} → answered t c ≡ (a, u) →
    ((key : Key) (before : List ℕ) → ever_after (deed_for key (record { call = c; answer = a })) before ≡ before) →
    ((later : List Answer) → verdict_of c a later ≡ later) → Comes u more line w → Comes t (c ∷ more) line w
unfolding after_calls ever_accepted answered_all verdicts_of
quiet {c = c} {a = a} {line = line} is no_number no_verdict k =
    record {
      ends_with = rw is k.ends_with;
      numbers =
          λ key past.
          rw is (k.numbers key (record { call = c; answer = a } ∷ past) ∙ ap (accepted_line key line) (no_number key (ever_accepted key past)));
      verdicts =
          λ past later.
          rw is (k.verdicts (record { call = c; answer = a } ∷ past) later ∙ ap (verdicts_of past) (no_verdict (verdict_line line later)));
    }

-- the last call of a record
last : {t u : Table} {c : Call} {a : Answer} {line : Listed} → answered t c ≡ (a, u) →
    ((key : Key) (before : List ℕ) → ever_after (deed_for key (record { call = c; answer = a })) before ≡ accepted_line key line before) →
    ((later : List Answer) → verdict_of c a later ≡ verdict_line line later) → Comes t (c ∷ []) line u
unfolding after_calls ever_accepted answered_all verdicts_of
last is number verdict =
    record {
      ends_with = ap (λ (p : Answer × Table). p.1) is;
      numbers = λ key past. rw is (number key (ever_accepted key past));
      verdicts = λ past later. rw is (ap (verdicts_of past) (verdict later));
    }

undone : (c : Call) (n : ℕ) → eqb n 0 ≡ false → (key : Key) (before : List ℕ) →
    ever_after (deed_for key (record { call = c; answer = refused n })) before ≡ before
undone c n z key before = rw z

-- ---- a packet

module _ (addresses : Addresses) (protocol : ℕ) (s : Bytes) where
  abbrev showing : Call
  showing = shows addresses.destination protocol true s

  abbrev own : Key
  own = key_of addresses.destination protocol s

  line-short : (n : ℕ) (key : Key) (before : List ℕ) → accepted_line key (listed_packet addresses protocol s (Refused n)) before ≡ before
  unfolding listed_packet
  line-short n key before = by_test (ltb (length s) (least_bytes protocol)) (λ e. rw e) (λ e. rw e)

  line-verdict : (verdict : Verdict) (later : List Answer) →
      verdict_line (listed_packet addresses protocol s verdict) later ≡ verdict_answer verdict ∷ later
  unfolding listed_packet
  line-verdict verdict later = by_test (ltb (length s) (least_bytes protocol)) (λ e. rw e) (λ e. rw e)

  line-accepted : read protocol s ≡ Packets.Read (spi_of protocol s) (number_of protocol s) → ltb (length s) (least_bytes protocol) ≡ false →
      (rise : ℕ) (key : Key) (before : List ℕ) →
      ever_after (deed_for key (record { call = showing; answer = done (rise ∷ []) })) before
      ≡ accepted_line key (listed_packet addresses protocol s (Accepted rise)) before
  unfolding listed_packet History.key_of
  line-accepted reading long rise key before = by_test (same own key) (λ e. rw (reading, long) (rw e)) (λ e. rw (reading, long) (rw e))

  stays_comes : {t : Table} {r : Verdict × Table} → Stays addresses.destination protocol s t r →
      Comes t (showing ∷ []) (listed_packet addresses protocol s r.0) r.1
  unfolding verdict_answer
  stays_comes (accepts_it {rise = rise} is reading long) =
      last is (line-accepted reading long rise) (λ later. sym (line-verdict (Accepted rise) later))
  stays_comes (refuses_it {n = n} is z e) =
      last is (λ key before. undone showing n z key before ∙ sym (line-short n key before)) (λ later. rw e (sym (line-verdict (Refused n) later)))

  begins-quiet : (key : Key) (before : List ℕ) → ever_after (deed_for key (record { call = adds own; answer = done (1 ∷ []) })) before ≡ before
  unfolding History.key_of
  begins-quiet key before = by_test (same own key) (λ e. rw e) (λ e. rw e)

  way_comes : {t : Table} {calls : List Call} {r : Verdict × Table} → Way addresses.destination protocol s t calls r →
      Comes t calls (listed_packet addresses protocol s r.0) r.1
  unfolding verdict_answer
  way_comes (at_once k) = stays_comes k
  way_comes (begun_first is adding k) =
      quiet is (undone showing 11 refl) (λ later. refl) (quiet adding begins-quiet (λ later. refl) (stays_comes k))
  way_comes (not-added {n = n} is adding z) =
      quiet is (undone showing 11 refl) (λ later. refl)
      (last adding (λ key before. undone (adds own) n z key before ∙ sym (line-short n key before))
      (λ later. rw z (sym (line-verdict (Refused n) later))))

-- ---- a record, and a capture

record_comes : {t : Table} {to : ToTable} {r : Listed × Table} → length t ≡ rooms * words → Goes t to r → Comes t (calls_of t to) r.0 r.1
unfolding calls_of after_calls answered_all packet_listed
record_comes long (to_none bare) =
    record {
      ends_with = refl;
      numbers = λ key past. sym (bare.no_number key (ever_accepted key past));
      verdicts = λ past later. ap (verdicts_of past) (sym (bare.no_verdict later));
    }
record_comes {t = t} long (to_table_lem {addresses = addresses} {protocol = protocol} {sent = sent}) =
    way_comes addresses protocol sent (way addresses.destination protocol sent t long)

record CaptureComes (t : Table) (records : List (ℕ × Bytes)) : Type 0 where
  ends_with : after_calls t (capture_calls t records) ≡ table_after t records
  numbers : (key : Key) (past : List Event) →
      ever_accepted key (answered_all t past (capture_calls t records)) ≡ accepted_in key (lines t records) (ever_accepted key past)
  verdicts : (past : List Event) → verdicts_of (answered_all t past (capture_calls t records)) [] ≡ verdicts_of past (verdicts_in (lines t records))

capture_comes : (records : List (ℕ × Bytes)) (t : Table) → length t ≡ rooms * words → CaptureComes t records
unfolding capture_calls table_after lines accepted_in verdicts_in
capture_comes [] t long = unfold after_calls answered_all in record { ends_with = refl; numbers = λ key past. refl; verdicts = λ past. refl }
capture_comes (r ∷ records) t long =
    let u : Table = (listed t r.0 r.1).1 in
    let calls : List Call = calls_of t (to_table r.0 r.1) in
    let more : List Call = capture_calls u records in
    let first : Comes t calls (listed t r.0 r.1).0 u = record_comes long (goes t r.0 r.1) in
    let rest : CaptureComes u records = capture_comes records u (ap length (sym first.ends_with) ∙ after-long calls t ∙ long) in
    record {
      ends_with = after_then calls more t ∙ ap (λ (x : Table). after_calls x more) first.ends_with ∙ rest.ends_with;
      numbers =
          λ key past.
          ap (ever_accepted key) (answered_then calls more t first.ends_with past) ∙ rest.numbers key (answered_all t past calls)
          ∙ ap (accepted_in key (lines u records)) (first.numbers key past);
      verdicts =
          λ past.
          ap (λ (es : List Event). verdicts_of es []) (answered_then calls more t first.ends_with past) ∙ rest.verdicts (answered_all t past calls)
          ∙ first.verdicts past (verdicts_in (lines u records));
    }

-- ---- one life

-- a capture removes nothing
abbrev removing : (c : Call) → Bool
removing (adds key) = false
removing (removes key) = true
removing (shows destination protocol integrity s) = false
removing (sends key) = false
removing (asks key) = false

data NoRemoving : List Call → Type 0 where
  no_call : NoRemoving []
  and-call : {c : Call} {calls : List Call} → removing c ≡ false → NoRemoving calls → NoRemoving (c ∷ calls)

no_removing_then : {calls more : List Call} → NoRemoving calls → NoRemoving more → NoRemoving (calls ++ more)
no_removing_then no_call m = m
no_removing_then (and-call h k) m = and-call h (no_removing_then k m)

way_removes : {destination protocol : ℕ} {s : Bytes} {t : Table} {calls : List Call} {r : Verdict × Table} → Way destination protocol s t calls r →
    NoRemoving calls
way_removes (at_once k) = and-call refl no_call
way_removes (begun_first is adding k) = and-call refl (and-call refl (and-call refl no_call))
way_removes (not-added is adding z) = and-call refl (and-call refl no_call)

record_removes : (t : Table) (to : ToTable) → length t ≡ rooms * words → NoRemoving (calls_of t to)
unfolding calls_of
record_removes t nothing long = no_call
record_removes t (ah_or_esp addresses protocol s) long = way_removes (way addresses.destination protocol s t long)

capture_removes : (records : List (ℕ × Bytes)) (t : Table) → length t ≡ rooms * words → NoRemoving (capture_calls t records)
unfolding capture_calls
capture_removes [] t long = no_call
capture_removes (r ∷ records) t long =
    let to : ToTable = to_table r.0 r.1 in
    let after : (listed t r.0 r.1).1 ≡ after_calls t (calls_of t to) = sym (record_comes long (goes t r.0 r.1)).ends_with in
    no_removing_then (record_removes t to long) (capture_removes records _ (ap length after ∙ after-long (calls_of t to) t ∙ long))

module _ (key : Key) where
  -- the numbers accepted in this life are all that were, and before a life there are none
  record OneLife (past : List Event) : Type 0 where
    all : accepted key past ≡ ever_accepted key past
    none_before : lives key past ≡ false → ever_accepted key past ≡ []

  module _ (past : List Event) (k : OneLife past) where
    packet-lives : (destination protocol : ℕ) (integrity : Bool) (s : Bytes) (p : Packet) → read protocol s ≡ p →
        is_done (right_packet past destination protocol integrity p) ≡ true → History.key_read destination protocol p ≡ key → lives key past ≡ true
    unfolding right_packet
    packet-lives destination protocol integrity s (Packets.Refused n) is h e = clash (sym (unread protocol s n is) ∙ h)
    packet-lives destination protocol integrity s (Packets.Read spi n) is h e =
        by_test (lives key past) (λ l. l) (λ l. let q = rw e at h in clash (rw l at q))

    adding_absent : is_done (right past (adds key)) ≡ true → lives key past ≡ false
    unfolding right
    adding_absent h =
        by_test (lives key past)
        (λ l.
        by_test (known key.protocol)
        (λ e1. by_test (ltb key.spi 256) (λ e2. clash (rw (e1, e2) at h)) (λ e2. clash (rw (e1, e2, l) at h)))
        (λ e1. clash (rw e1 at h)))
        (λ l. l)

    -- the same after a deed
    record AfterDeed (d : Deed) : Type 0 where
      all : accepted_after d (accepted key past) ≡ ever_after d (ever_accepted key past)
      none_before : lives_after d (lives key past) ≡ false → ever_after d (ever_accepted key past) ≡ []

    own-deed : (c : Call) → removing c ≡ false → is_done (right past c) ≡ true → History.key_of c ≡ key → AfterDeed (deed c (right past c))
    unfolding History.key_of right
    own-deed (adds b) m h e =
        record { all = sym (k.none_before (adding_absent (rw e at h))); none_before = λ l. clash (sym l) }
    own-deed (removes b) m h e = clash (sym m)
    own-deed (shows destination protocol integrity s) m h e =
        let running : lives key past ≡ true = packet-lives destination protocol integrity s (read protocol s) refl h e in
        record { all = ap (λ (ns : List ℕ). number_read (read protocol s) ∷ ns) k.all; none_before = λ l. clash (sym l ∙ running) }
    own-deed (sends b) m h e = record { all = k.all; none_before = k.none_before }
    own-deed (asks b) m h e = record { all = k.all; none_before = k.none_before }

    call-deed : (c : Call) → removing c ≡ false → AfterDeed (deed_for key (record { call = c; answer = right past c }))
    call-deed c m =
        let unchanged : AfterDeed none = record { all = k.all; none_before = k.none_before } in
        by_test (is_done (right past c))
        (λ h. by_test (same (History.key_of c) key) (λ q. rw (h, q) (own-deed c m h (same_true (History.key_of c) key q))) (λ q. rw (h, q) unchanged))
        (λ h. rw h unchanged)

    call-life : (c : Call) → removing c ≡ false → OneLife (record { call = c; answer = right past c } ∷ past)
    unfolding accepted lives ever_accepted
    call-life c m = let after = call-deed c m in record { all = after.all; none_before = after.none_before }

  run-life : {calls : List Call} → NoRemoving calls → (past : List Event) → OneLife past → OneLife (right_all past calls)
  unfolding right_all
  run-life no_call past k = k
  run-life (and-call {c = c} m n) past k = run-life n _ (call-life past k c m)

-- ---- the theorems

-- a listing is a history of calls, from any table
module _ (t : Table) (long : length t ≡ rooms * words) (records : List (ℕ × Bytes)) where
  pub listing-table : after_calls t (capture_calls t records) ≡ table_after t records
  listing-table = (capture_comes records t long).ends_with

  pub listing_verdicts : verdicts_of (answered_all t [] (capture_calls t records)) [] ≡ verdicts_in (lines t records)
  unfolding verdicts_of
  listing_verdicts = (capture_comes records t long).verdicts []

-- from the empty table
module _ (records : List (ℕ × Bytes)) where
  pub capture_right : verdicts_in (lines empty records) ≡ verdicts_of (right_all [] (capture_calls empty records)) []
  capture_right =
      sym (listing_verdicts empty empty-long records)
      ∙ ap (λ (es : List Event). verdicts_of es []) (History-runs.answers-right (capture_calls empty records))

  module _ (key : Key) where
    pub listed-accepted : accepted_in key (lines empty records) [] ≡ accepted key (answered_all empty [] (capture_calls empty records))
    unfolding ever_accepted accepted lives
    listed-accepted =
        let run : answered_all empty [] (capture_calls empty records) ≡ right_all [] (capture_calls empty records) =
        History-runs.answers-right (capture_calls empty records) in
        let life : OneLife key (right_all [] (capture_calls empty records)) =
        run-life key (capture_removes records empty empty-long) [] (record { all = refl; none_before = λ l. refl }) in
        sym ((capture_comes records empty empty-long).numbers key []) ∙ ap (ever_accepted key) run ∙ sym life.all ∙ ap (accepted key) (sym run)

    pub capture_once : Distinct (accepted_in key (lines empty records) [])
    capture_once = rw listed-accepted (History-runs.once_only (capture_calls empty records) key)
