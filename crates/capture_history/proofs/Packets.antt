-- One packet of a capture: the calls of the table that it is, one way for each answer that they can have, and what is listed of it.
use Prim.Native.Nat.{ℕ, ◌+◌, ◌*◌}
use mathlib.Core.Path.{◌≡◌, refl, sym, ap, ap₂, ◌∙◌}
use mathlib.Core.Bool.{Bool, true, false, not, ◌&&◌}
use mathlib.Core.List.{List, [], ◌∷◌}
use borrow.Author.Tests.{eqb-true, leb-true, le-ltb}
use lib.ListN.{length}
use lib.Dec.{eqb, leb, ltb}
use Rattle.wire_read.specs.Wire.{Bytes}
use Rattle.wire_read.specs.Answer.{Answer, done, refused}
use Rattle.wire_read.proofs.Tests.{clash, both, by_test}
use Rattle.sequence_record.specs.declared.Receive.{Receive}
use Rattle.sequence_record.specs.Verdict.{Verdict, Accepted, Refused}
use Rattle.sequence_record.specs.Receive.{behind, accepted_before, judged, verdict_answer}
use Rattle.sequence_packet.specs.Packet.{Packet}
use Rattle.sequence_packet.specs.Packet as Packets
use Rattle.sequence_packet.specs.Packets.{ah_reserved, ah_spi, ah_number, esp_spi, esp_number, ah_size, known, ah, esp, read, packet_answer}
use Rattle.sequence_table.specs.declared.table.Key.{Key}
use Rattle.sequence_table.specs.Outcome.{Outcome}
use Rattle.sequence_table.specs.Outcome as Outcomes
use Rattle.sequence_table.specs.Table.{Table, rooms, words, find, free, entry_at, added, judged_at, packet_read, packet, outcome_answer}
use Rattle.sequence_history.specs.History.{Call, adds, shows, right_number, answered}
use Rattle.sequence_history.proofs.Ways.{refused-nothing}
use Rattle.sequence_history.proofs.Keys.{new_packet}
use Rattle.capture_record.specs.Listing.{least_bytes, spi_of, number_of, key_of, is_eleven, added_first, shown}
use Rattle.capture_history.specs.Capture.{TablesOwn, known_key, added-first, adding_refused, after_adding, packet_calls}

-- ---- reading, judging, adding

-- what a packet is read as: the SPI and the number that are listed of it, or a refusal that is not 11
pub data Reads (protocol : ℕ) (s : Bytes) : Packet → Type 0 where
  reads : {spi number : ℕ} → spi_of protocol s ≡ spi → number_of protocol s ≡ number → ltb (length s) (least_bytes protocol) ≡ false →
      Reads protocol s (Packets.Read spi number)
  unread : {n : ℕ} → eqb n 0 ≡ false → eqb n 11 ≡ false → Reads protocol s (Packets.Refused n)

ah-long : (s : Bytes) → (leb 12 (length s) && eqb (ah_reserved s) 0 && leb 12 (ah_size s) && leb (ah_size s) (length s)) ≡ true →
    ltb (length s) 12 ≡ false
ah-long s f =
    le-ltb (length s) 12 (leb-true 12 (length s) (both (leb 12 (length s)) _ (both _ (leb 12 (ah_size s)) (both _ _ f).0).0).0)

pub read_by : (protocol : ℕ) (s : Bytes) → Reads protocol s (read protocol s)
unfolding read ah esp
read_by protocol s =
    by_test (known protocol)
    (λ k.
    by_test (eqb protocol 2)
    (λ a.
    by_test (leb 12 (length s) && eqb (ah_reserved s) 0 && leb 12 (ah_size s) && leb (ah_size s) (length s))
    (λ f. rw (k, a, f) (reads {spi = ah_spi s} {number = ah_number s} (rw a) (rw a) (rw a (ah-long s f))))
    (λ f. rw (k, a, f) (unread refl refl)))
    (λ a.
    by_test (leb 8 (length s))
    (λ f. rw (k, a, f) (reads {spi = esp_spi s} {number = esp_number s} (rw a) (rw a) (rw a (le-ltb (length s) 8 (leb-true 8 (length s) f)))))
    (λ f. rw (k, a, f) (unread refl refl))))
    (λ k. rw k (unread refl refl))

-- what a record's step says of a number: it is accepted, or refused with a number that is not 11
data Says : Verdict → Type 0 where
  says-accepted : {rise : ℕ} → Says (Accepted rise)
  says-refused : {n : ℕ} → eqb n 0 ≡ false → eqb n 11 ≡ false → Says (Refused n)

says : (r : Receive) (number : ℕ) (integrity : Bool) → Says (judged r number integrity).verdict
unfolding judged
says r number integrity =
    by_test (behind r.highest number) (λ e1. rw e1 (says-refused refl refl))
    (λ e1.
    by_test (accepted_before r number) (λ e2. rw (e1, e2) (says-refused refl refl))
    (λ e2. by_test integrity (λ e3. rw (e1, e2, e3) says-accepted) (λ e3. rw (e1, e2, e3) (says-refused refl refl))))

-- what adding says: done, or refused with the table as it was
data Adding (t : Table) : Outcome × Table → Type 0 where
  adding_done : {u : Table} → Adding t (Outcomes.Done, u)
  adding_not : {n : ℕ} → eqb n 0 ≡ false → Adding t (Outcomes.Refused n, t)

adding : (t : Table) (key : Key) → Adding t (added t key)
unfolding added
adding t key =
    by_test (not (known key.protocol)) (λ e1. rw e1 (adding_not refl))
    (λ e1.
    by_test (ltb key.spi 256) (λ e2. rw (e1, e2) (adding_not refl))
    (λ e2.
    by_test (ltb (find t key) rooms) (λ e3. rw (e1, e2, e3) (adding_not refl))
    (λ e3. by_test (leb rooms (free t)) (λ e4. rw (e1, e2, e3, e4) (adding_not refl)) (λ e4. rw (e1, e2, e3, e4) adding_done))))

eleven : (v : Verdict) → is_eleven v ≡ true → v ≡ Refused 11
eleven (Refused n) h = ap Refused (eqb-true n 11 h)
eleven (Accepted rise) h = clash h

eleven_number : (v : Verdict) → eqb (verdict_answer v).number 11 ≡ is_eleven v
unfolding verdict_answer
eleven_number (Refused n) = refl
eleven_number (Accepted rise) = refl

-- a number shown to a new life is not answered by 11
new_not_eleven : (number : ℕ) → eqb (right_number [] number true).number 11 ≡ false
unfolding right_number
new_not_eleven number = by_test (eqb number 0) (λ e. rw e) (λ e. by_test (leb (number + 64) 0) (λ f. rw (e, f)) (λ f. rw (e, f)))

module _ (destination protocol : ℕ) (s : Bytes) where
  abbrev showing : Call
  showing = shows destination protocol true s

  abbrev key : Key
  key = key_of destination protocol s

  -- ---- the listed verdict is the table's own

  module _ (t : Table) where
    own_adding : {a : Outcome × Table} → (packet t destination protocol true s).0 ≡ Refused 11 → Adding t a → added t key ≡ a →
        TablesOwn t destination protocol s (added_first a destination protocol s)
    unfolding added_first
    own_adding h adding_done is = added-first h is
    own_adding h (adding_not n) is = adding_refused h is

    pub tables-own : TablesOwn t destination protocol s (shown t destination protocol s)
    unfolding shown
    tables-own =
        by_test (is_eleven (packet t destination protocol true s).0)
        (λ e. rw e (own_adding (eleven _ e) (adding t key) refl))
        (λ e. rw e (known_key e))

    -- ---- the calls, and their answers

    -- an answer that stays: no key has to be added for it
    pub data Stays : Verdict × Table → Type 0 where
      accepts_it : {rise : ℕ} {u : Table} → answered t showing ≡ (done (rise ∷ []), u) →
          read protocol s ≡ Packets.Read (spi_of protocol s) (number_of protocol s) → ltb (length s) (least_bytes protocol) ≡ false → Stays (Accepted rise, u)
      refuses_it : {n : ℕ} {u : Table} → answered t showing ≡ (refused n, u) → eqb n 0 ≡ false → eqb n 11 ≡ false → Stays (Refused n, u)

    stays_judged : {v : Verdict} {u : Table} → Says v → packet t destination protocol true s ≡ (v, u) →
        read protocol s ≡ Packets.Read (spi_of protocol s) (number_of protocol s) → ltb (length s) (least_bytes protocol) ≡ false → Stays (v, u)
    unfolding answered verdict_answer
    stays_judged {u = u} (says-accepted {rise = rise}) is r l = accepts_it {rise = rise} {u = u} (rw is) r l
    stays_judged {u = u} (says-refused {n = n} h k) is r l = refuses_it {n = n} {u = u} (rw is) h k

    stays_read : {p : Packet} → Reads protocol s p → read protocol s ≡ p → is_eleven (packet_read t destination protocol true p).0 ≡ false →
        Stays (packet_read t destination protocol true p)
    unfolding packet_read judged_at
    stays_read (unread {n = n} h k) is e = refuses_it {n = n} {u = t} (unfold answered verdict_answer packet in rw is) h k
    stays_read (reads {spi = spi} {number = number} a b l) is e =
        let room : ℕ = find t (record { destination = destination; protocol = protocol; spi = spi }) in
        by_test (leb rooms room)
        (λ f. clash (sym (rw f at e)))
        (λ f. rw f (stays_judged (says (entry_at t room).receive number true) (unfold packet in rw (is, f)) (rw (a, b) is) l))

    stays : is_eleven (packet t destination protocol true s).0 ≡ false → Stays (packet t destination protocol true s)
    unfolding packet
    stays = stays_read (read_by protocol s) refl

  -- a packet's calls, and the verdict and the table that they end with
  pub data Way (t : Table) : List Call → Verdict × Table → Type 0 where
    at_once : {r : Verdict × Table} → Stays t r → Way t (showing ∷ []) r
    begun_first : {u : Table} {r : Verdict × Table} → answered t showing ≡ (refused 11, t) → answered t (adds key) ≡ (done (1 ∷ []), u) → Stays u r →
        Way t (showing ∷ adds key ∷ showing ∷ []) r
    not-added : {n : ℕ} → answered t showing ≡ (refused 11, t) → answered t (adds key) ≡ (refused n, t) → eqb n 0 ≡ false →
        Way t (showing ∷ adds key ∷ []) (Refused n, t)

  eleven_reads : {p : Packet} (t : Table) → Reads protocol s p → (packet_read t destination protocol true p).0 ≡ Refused 11 →
      packet_answer p ≡ done (spi_of protocol s ∷ number_of protocol s ∷ [])
  unfolding packet_read packet_answer
  eleven_reads t (reads a b l) h = rw (a, b)
  eleven_reads t (unread {n = n} z k) h = let e : n ≡ 11 = cc in clash (sym (rw e at k))

  module _ (t : Table) (long : length t ≡ rooms * words) where
    -- a packet that is answered by 11 reads, and behind the adding of its key it is not answered so again
    new_stays : {u : Table} → (packet t destination protocol true s).0 ≡ Refused 11 → answered t (adds key) ≡ (done (1 ∷ []), u) →
        is_eleven (packet u destination protocol true s).0 ≡ false
    unfolding packet answered
    new_stays {u = u} h is =
        let reading = eleven_reads t (read_by protocol s) h in
        sym (eleven_number (packet u destination protocol true s).0)
        ∙ ap (λ (a : Answer). eqb a.number 11) (new_packet t u key long is true s (number_of protocol s) reading)
        ∙ new_not_eleven (number_of protocol s)

    eleven_keeps : (packet t destination protocol true s).0 ≡ Refused 11 → answered t showing ≡ (refused 11, t)
    eleven_keeps h =
        let is : (answered t showing).0 ≡ refused 11 = unfold answered verdict_answer in rw h in
        ap₂ (λ (a : Answer) (u : Table). (a, u)) is (refused-nothing t showing (rw is))

    way_adding : {a : Outcome × Table} → (packet t destination protocol true s).0 ≡ Refused 11 → Adding t a → added t key ≡ a →
        Way t (showing ∷ adds key ∷ after_adding a.0 showing) (added_first a destination protocol s)
    unfolding added_first
    way_adding h (adding_done {u = u}) is =
        let does : answered t (adds key) ≡ (done (1 ∷ []), u) = unfold answered outcome_answer in rw is in
        begun_first (eleven_keeps h) does (stays u (new_stays h does))
    way_adding h (adding_not {n = n} z) is =
        let does : answered t (adds key) ≡ (refused n, t) = unfold answered outcome_answer in rw is in
        not-added (eleven_keeps h) does z

    pub way : Way t (packet_calls t destination protocol s) (shown t destination protocol s)
    unfolding packet_calls shown
    way =
        by_test (is_eleven (packet t destination protocol true s).0)
        (λ e. rw e (way_adding (eleven _ e) (adding t key) refl))
        (λ e. rw e (at_once (stays t e)))
