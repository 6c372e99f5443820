-- What is said of a table whatever words it has: a new life, other keys, the lent record.
use Prim.Native.Nat.{ℕ, ◌*◌, ◌<◌}
use mathlib.Core.Path.{◌≡◌, refl, sym, ap, ◌∙◌}
use mathlib.Core.Bool.{Bool, false}
use mathlib.Core.List.{List, [], ◌∷◌}
use native.Mathlib.Omega.{arith}
use borrow.Author.Tests.{lt-leb}
use lib.ListN.{length}
use lib.Dec.{leb}
use lib.Count.{ones}
use Rattle.wire_read.proofs.Tests.{never, clash, by_test}
use Rattle.sequence_record.specs.Verdict.{Judged}
use Rattle.sequence_packet.specs.Packet.{Packet, Read, Refused}
use Rattle.sequence_table.specs.declared.table.Key.{Key}
use Rattle.sequence_table.specs.declared.table.Entry.{Entry}
use Rattle.sequence_table.proofs.Laws as L
use Rattle.sequence_record.specs.Receive.{new_receive, judged, verdict_answer}
use Rattle.sequence_packet.specs.Packets.{read, packet_answer}
use Rattle.sequence_table.specs.Table.{Table, rooms, words, find, free, new_entry, with_receive, entry_at, put_entry, removed, judged_at, packet_read, packet, handed_out, next_to_send, loss, sending_answer, counted_answer}
use Rattle.wire_read.specs.Answer.{Answer, done}
use Rattle.sequence_history.specs.History.{Call, adds, removes, shows, sends, asks, key_read, key_of, is_adding, Carries, no_more, next, table_answers, lent_answers, right_number, answered}
use Rattle.sequence_history.proofs.Record.{one-step, starts}
use Rattle.sequence_history.proofs.Table.{begun, Apart, own_entry, own_room, own-begun}
use Rattle.sequence_history.proofs.Ways.{Begun, adding_done, call_apart, call_length}

-- what a packet's answer says is what was read
read_as : (p : Packet) (spi number : ℕ) → packet_answer p ≡ done (spi ∷ number ∷ []) → p ≡ Read spi number
unfolding packet_answer
read_as (Read spi' number') spi number h = let e : spi' ∷ number' ∷ [] ≡ spi ∷ number ∷ [] = ap (λ (a : Answer). a.values) h in cc
read_as (Refused n) spi number h = let e : [] ≡ spi ∷ number ∷ [] = ap (λ (a : Answer). a.values) h in never (cc)

-- ---- a new life starts empty, whatever words the table had

module _ (t u : Table) (key : Key) (long : length t ≡ rooms * words) (adding : answered t (adds key) ≡ (done (1 ∷ []), u)) where
  begins : Begun t key (answered t (adds key))
  begins = adding_done t key (ap (λ (p : Answer × Table). p.0) adding)

  new_is : u ≡ begun t key
  new_is = sym (ap (λ (p : Answer × Table). p.1) adding) ∙ begins.is

  new_room : find u key < rooms
  new_room =
      let at : find u key ≡ free t = rw new_is (own_room t key long begins.absent begins.room) in
      omega (arith, begins.room)

  new_entry_lem : entry_at u (find u key) ≡ new_entry
  new_entry_lem = rw new_is (own-begun t key long begins.absent begins.room)

  pub new_loss : (answered u (asks key)).0 ≡ done (0 ∷ 0 ∷ 0 ∷ [])
  unfolding answered loss counted_answer ones
  new_loss = rw (lt-leb rooms (find u key) new_room, new_entry_lem)

  pub new_sending : (answered u (sends key)).0 ≡ done (1 ∷ [])
  unfolding answered next_to_send handed_out sending_answer
  new_sending = rw (lt-leb rooms (find u key) new_room, new_entry_lem)

  pub new_packet : (integrity : Bool) (s : List ℕ) (number : ℕ) → packet_answer (read key.protocol s) ≡ done (key.spi ∷ number ∷ []) →
      (answered u (shows key.destination key.protocol integrity s)).0 ≡ right_number [] number integrity
  unfolding answered packet packet_read judged_at
  new_packet integrity s number is =
      rw (read_as (read key.protocol s) key.spi number is, lt-leb rooms (find u key) new_room, new_entry_lem)
      (one-step new_receive [] starts number integrity).0

-- ---- a call on one key changes nothing that can be asked of another

-- what is asked of a key whose life is the same is answered the same
module _ (t u : Table) where
  same-packet : (destination protocol : ℕ) (integrity : Bool) (p : Packet) → Apart t u (key_read destination protocol p) →
      (packet_read u destination protocol integrity p).0 ≡ (packet_read t destination protocol integrity p).0
  unfolding packet_read judged_at
  same-packet destination protocol integrity (Refused number) a = refl
  same-packet destination protocol integrity (Read spi number) a =
      let key : Key = record { destination = destination; protocol = protocol; spi = spi } in
      by_test (leb rooms (find t key))
      (λ h. rw (a.found, h))
      (λ h. rw (a.entry, a.found, h))

  same_answer : (c : Call) → is_adding c ≡ false → Apart t u (key_of c) → (answered u c).0 ≡ (answered t c).0
  unfolding answered key_of removed packet next_to_send handed_out loss
  same_answer (adds key) h a = clash (sym h)
  same_answer (removes key) h a = by_test (leb rooms (find t key)) (λ e. rw (a.found, e)) (λ e. rw (a.found, e))
  same_answer (shows destination protocol integrity s) h a = ap verdict_answer (same-packet destination protocol integrity (read protocol s) a)
  same_answer (sends key) h a =
      by_test (leb rooms (find t key))
      (λ e. rw (a.found, e))
      (λ e.
      by_test (leb 4294967295 (entry_at t (find t key)).counter)
      (λ f. rw (a.entry, a.found, e, f))
      (λ f. rw (a.entry, a.found, e, f)))
  same_answer (asks key) h a = rw (a.entry, a.found)

-- A call on one key changes nothing that can be asked of another, whatever words the table has. (Adding another key may find the table
-- full: that is asked of the table.)
pub other_keys : (t : Table) → length t ≡ rooms * words → (c asked : Call) → (key_of c ≡ key_of asked → ⊥) → is_adding asked ≡ false →
    (answered (answered t c).1 asked).0 ≡ (answered t asked).0
other_keys t long c asked d h = same_answer t (answered t c).1 asked h (call_apart t long c (key_of asked) d)

-- ---- the lent record and the table

packet-at : (t : Table) (key : Key) (integrity : Bool) (s : List ℕ) (number : ℕ) → find t key < rooms → read key.protocol s ≡ Read key.spi number →
    packet t key.destination key.protocol integrity s ≡ judged_at t (find t key) (judged (entry_at t (find t key)).receive number integrity)
unfolding packet packet_read
packet-at t key integrity s number here is = rw (is, lt-leb rooms (find t key) here)

-- From any life on, the lent record and the table give the same answers.
pub lent_same : (key : Key) (packets : List (Bool × List ℕ)) (numbers : List (Bool × ℕ)) → Carries key packets numbers →
    (t : Table) → length t ≡ rooms * words → find t key < rooms → table_answers t key packets ≡ lent_answers (entry_at t (find t key)).receive numbers
unfolding table_answers lent_answers judged_at
lent_same key packets numbers no_more t long here = refl
lent_same key packets numbers (next {integrity = integrity} {s = s} {number = number} {packets = ps} {numbers = ns} is more) t long here =
    let i : ℕ = find t key in
    let j : Judged = judged (entry_at t i).receive number integrity in
    let e : Entry = with_receive (entry_at t i) j.receive in
    let on : table_answers (put_entry t i e) key ps ≡ lent_answers (entry_at (put_entry t i e) (find (put_entry t i e) key)).receive ns =
    lent_same key ps ns more (put_entry t i e) (L.length_put_entry t i e ∙ long) (omega (arith, L.find-put_entry t i e key)) in
    rw (packet-at t key integrity s number here (read_as (read key.protocol s) key.spi number is))
    (ap (λ (l : List Answer). verdict_answer j.verdict ∷ l) (on ∙ rw (own_entry t key long e here)))

-- From a life's beginning: a table in which the key was just added, and a new lent record.
pub lent_from_new : (key : Key) (packets : List (Bool × List ℕ)) (numbers : List (Bool × ℕ)) → Carries key packets numbers →
    (t u : Table) → length t ≡ rooms * words → answered t (adds key) ≡ (done (1 ∷ []), u) → table_answers u key packets ≡ lent_answers new_receive numbers
lent_from_new key packets numbers c t u long adding =
    let wide : length u ≡ rooms * words = ap length (sym (ap (λ (p : Answer × Table). p.1) adding)) ∙ call_length t (adds key) ∙ long in
    lent_same key packets numbers c u wide (new_room t u key long adding) ∙ rw (new_entry_lem t u key long adding)
