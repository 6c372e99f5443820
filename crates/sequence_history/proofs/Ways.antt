-- What a call does to the table, whatever words it has, one way for each answer that it can have; and so what it leaves of other keys, of the
-- table's length and of the rooms that are taken, and that a refusal changes nothing.
use Prim.Native.Nat.{ℕ, ◌+◌, ◌*◌, ◌≤◌, ◌<◌}
use mathlib.Core.Path.{◌≡◌, refl, sym, ap, ◌∙◌}
use mathlib.Core.Bool.{Bool, true, false, not, ◌&&◌}
use mathlib.Core.List.{List, [], ◌∷◌}
use borrow.Author.Tests.{leb-false, ltb-false}
use lib.ListN.{length}
use lib.Dec.{eqb, leb, ltb}
use Rattle.wire_read.specs.Wire.{Bytes}
use Rattle.wire_read.specs.Tests.{if◌then◌otherwise◌}
use Rattle.wire_read.specs.Answer.{Answer, done, refused}
use Rattle.wire_read.proofs.Tests.{never, clash, by_test}
use Rattle.sequence_record.specs.Verdict.{Judged}
use Rattle.sequence_packet.specs.Packet.{Packet, Read, Refused}
use Rattle.sequence_table.specs.declared.table.Key.{Key}
use Rattle.sequence_table.specs.declared.table.Entry.{Entry}
use Rattle.sequence_table.specs.Counted.{Line}
use Rattle.sequence_record.specs.Receive.{judged, loss_line, verdict_answer}
use Rattle.sequence_packet.specs.Packets.{ah_reserved, ah_spi, ah_number, esp_spi, esp_number, known, ah_size, ah, esp, read}
use Rattle.sequence_table.specs.Table.{Table, rooms, words, find, free, put_key, new_entry, emptied, with_receive, with_counter, entry_at, put_entry, added, removed, judged_at, packet_read, packet, handed_out, next_to_send, loss, outcome_answer, sending_answer, counted_answer}
use Rattle.sequence_table.proofs.Laws as L
use Rattle.sequence_history.specs.History.{Call, adds, removes, shows, sends, asks, is_done, key_of, none, deed, entries_after, answered}
use Rattle.sequence_history.proofs.Record.{judged-refused}
use Rattle.sequence_history.proofs.Table.{begun, Apart, apart_entry, apart_added, apart_removed, taken_rooms, taken_entry, taken-begun, taken_ended}

-- a packet that is not read is refused with a number that is not 0
pub unread : (protocol : ℕ) (s : Bytes) (n : ℕ) → read protocol s ≡ Refused n → eqb n 0 ≡ false
unfolding read ah esp
unread protocol s n =
    of (not (known protocol)) (eqb protocol 2) (leb 12 (length s) && eqb (ah_reserved s) 0 && leb 12 (ah_size s) && leb (ah_size s) (length s)) (leb 8 (length s))
  where
    of : (a b c d : Bool) →
        (if a then Refused 10 otherwise if b then (if c then Read (ah_spi s) (ah_number s) otherwise Refused 16)
        otherwise (if d then Read (esp_spi s) (esp_number s) otherwise Refused 16)) ≡ Refused n →
        eqb n 0 ≡ false
    of true b c d h = let e : 10 ≡ n = cc in rw (← e)
    of false true true d h = never (cc)
    of false true false d h = let e : 16 ≡ n = cc in rw (← e)
    of false false c true h = never (cc)
    of false false c false h = let e : 16 ≡ n = cc in rw (← e)

module _ (t : Table) where
  -- the entry of a key that has one, and its record's step
  abbrev pub entry_for : (key : Key) → Entry
  entry_for key = entry_at t (find t key)

  abbrev pub step_for : (key : Key) (number : ℕ) (integrity : Bool) → Judged
  step_for key number integrity = judged (entry_for key).receive number integrity

  -- a call's answer and the table after it
  pub data Does : Call → Answer × Table → Type 0 where
    refuses : {c : Call} {n : ℕ} → eqb n 0 ≡ false → Does c (refused n, t)
    begins-life : {key : Key} → rooms ≤ find t key → free t < rooms → Does (adds key) (done (1 ∷ []), begun t key)
    ends-life : {key : Key} → find t key < rooms → Does (removes key) (done (1 ∷ []), emptied t (find t key))
    judges : {integrity : Bool} {s : Bytes} {number : ℕ} (key : Key) → read key.protocol s ≡ Read key.spi number → find t key < rooms →
        Does (shows key.destination key.protocol integrity s)
        (verdict_answer (step_for key number integrity).verdict, put_entry t (find t key) (with_receive (entry_for key) (step_for key number integrity).receive))
    hands_out : {key : Key} → find t key < rooms →
        Does (sends key) (done (((entry_for key).counter + 1) ∷ []), put_entry t (find t key) (with_counter (entry_for key) ((entry_for key).counter + 1)))
    tells : {key : Key} → find t key < rooms → Does (asks key) (counted_answer (Line (loss_line (entry_for key).receive)), t)

  pub does : (c : Call) → Does c (answered t c)
  unfolding answered added removed packet packet_read judged_at next_to_send handed_out loss outcome_answer verdict_answer sending_answer counted_answer
  does (adds key) =
      by_test (not (known key.protocol)) (λ e1. rw e1 (refuses refl))
      (λ e1.
      by_test (ltb key.spi 256) (λ e2. rw (e1, e2) (refuses refl))
      (λ e2.
      by_test (ltb (find t key) rooms) (λ e3. rw (e1, e2, e3) (refuses refl))
      (λ e3.
      by_test (leb rooms (free t)) (λ e4. rw (e1, e2, e3, e4) (refuses refl))
      (λ e4. rw (e1, e2, e3, e4) (begins-life (ltb-false (find t key) rooms e3) (leb-false rooms (free t) e4))))))
  does (removes key) =
      by_test (leb rooms (find t key)) (λ e. rw e (refuses refl)) (λ e. rw e (ends-life (leb-false rooms (find t key) e)))
  does (shows destination protocol integrity s) = of (read protocol s) refl
    where
      of : (p : Packet) → read protocol s ≡ p →
          Does (shows destination protocol integrity s)
          (verdict_answer (packet_read t destination protocol integrity p).0, (packet_read t destination protocol integrity p).1)
      of (Refused n) is = refuses (unread protocol s n is)
      of (Read spi number) is =
          let key : Key = record { destination = destination; protocol = protocol; spi = spi } in
          by_test (leb rooms (find t key)) (λ e. rw e (refuses refl)) (λ e. rw e (judges key is (leb-false rooms (find t key) e)))
  does (sends key) =
      by_test (leb rooms (find t key)) (λ e. rw e (refuses refl))
      (λ e.
      by_test (leb 4294967295 (entry_for key).counter) (λ f. rw (e, f) (refuses refl))
      (λ f. rw (e, f) (hands_out (leb-false rooms (find t key) e))))
  does (asks key) =
      by_test (leb rooms (find t key)) (λ e. rw e (refuses refl)) (λ e. rw e (tells (leb-false rooms (find t key) e)))

  apart_none : (b : Key) → Apart t t b
  apart_none b = record { held = λ j l. refl; found = refl; entry = refl }

  module _ (long : length t ≡ rooms * words) where
    apart_by : {c : Call} {r : Answer × Table} → Does c r → (b : Key) → (key_of c ≡ b → ⊥) → Apart t r.1 b
    unfolding key_of
    apart_by (refuses h) b d = apart_none b
    apart_by (begins-life {key = key} absent l) b d = apart_added t key b d long l
    apart_by (ends-life {key = key} here) b d = apart_removed t key b d long here
    apart_by (judges key is here) b d = apart_entry t key b (λ e. d (rw is e)) _ here
    apart_by (hands_out {key = key} here) b d = apart_entry t key b d _ here
    apart_by (tells here) b d = apart_none b

    taken-by : {c : Call} {r : Answer × Table} → Does c r →
        taken_rooms r.1 ≡ entries_after (if is_done r.0 then deed c r.0 otherwise none) (taken_rooms t)
    taken-by (refuses h) = rw h
    taken-by (begins-life {key = key} absent l) = taken-begun t key long l
    taken-by (ends-life {key = key} here) = taken_ended t key long here
    taken-by (judges {integrity = integrity} {number = number} key is here) =
        by_test (is_done (verdict_answer (step_for key number integrity).verdict))
        (λ h. rw h (taken_entry t (find t key) _)) (λ h. rw h (taken_entry t (find t key) _))
    taken-by (hands_out {key = key} here) = taken_entry t (find t key) _
    taken-by (tells here) = unfold counted_answer in refl

    -- a call on one key leaves what is another's
    pub call_apart : (c : Call) (b : Key) → (key_of c ≡ b → ⊥) → Apart t (answered t c).1 b
    call_apart c = apart_by (does c)

    pub call-taken : (c : Call) →
        taken_rooms (answered t c).1 ≡ entries_after (if is_done (answered t c).0 then deed c (answered t c).0 otherwise none) (taken_rooms t)
    call-taken c = taken-by (does c)

  length_by : {c : Call} {r : Answer × Table} → Does c r → length r.1 ≡ length t
  length_by (refuses h) = refl
  length_by (begins-life {key = key} absent l) = L.length_put_entry (put_key t (free t) key) (free t) new_entry ∙ L.length_put_key t (free t) key
  length_by (ends-life {key = key} here) = L.length_emptied t (find t key)
  length_by (judges key is here) = L.length_put_entry t (find t key) _
  length_by (hands_out {key = key} here) = L.length_put_entry t (find t key) _
  length_by (tells here) = refl

  pub call_length : (c : Call) → length (answered t c).1 ≡ length t
  call_length c = length_by (does c)

  refused-by : {c : Call} {r : Answer × Table} → Does c r → is_done r.0 ≡ false → r.1 ≡ t
  refused-by (refuses h) e = refl
  refused-by (begins-life absent l) e = clash (sym e)
  refused-by (ends-life here) e = clash (sym e)
  refused-by (judges {integrity = integrity} {number = number} key is here) e =
      rw (judged-refused (entry_for key).receive number integrity e) (L.put_back t (find t key))
  refused-by (hands_out here) e = clash (sym e)
  refused-by (tells here) e = refl

  -- A refusal changes nothing.
  pub refused-nothing : (c : Call) → is_done (answered t c).0 ≡ false → (answered t c).1 ≡ t
  refused-nothing c = refused-by (does c)

  -- an adding that is done begins a life of a key that had none
  pub record Begun (key : Key) (r : Answer × Table) : Type 0 where
    pub absent : rooms ≤ find t key
    pub room : free t < rooms
    pub is : r.1 ≡ begun t key

  begun-by : {key : Key} {r : Answer × Table} → Does (adds key) r → r.0 ≡ done (1 ∷ []) → Begun key r
  begun-by (refuses h) e = let v : ◌≡◌ {A = List ℕ} [] (1 ∷ []) = ap (λ (x : Answer). x.values) e in never (cc)
  begun-by (begins-life absent l) e = record { absent = absent; room = l; is = refl }

  pub adding_done : (key : Key) → (answered t (adds key)).0 ≡ done (1 ∷ []) → Begun key (answered t (adds key))
  adding_done key = begun-by (does (adds key))
