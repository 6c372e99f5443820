-- One call of a key against what came before: a table that keeps the life of that key by a list of events, whatever its other words are, answers
-- the call rightly, and after any call, of that key or of another, it keeps what then has come before.
use Prim.Native.Nat.{ℕ, ◌*◌, ◌≤◌, ◌<◌}
use mathlib.Core.Path.{◌≡◌, refl, sym, ap, ◌∙◌}
use mathlib.Core.Bool.{Bool, true, false, not, and-false}
use mathlib.Core.List.{List, [], ◌∷◌}
use native.Mathlib.Omega.{arith}
use borrow.Author.Tests.{lt-ltb, le-leb, lt-leb, ltb-true, ltb-false}
use lib.ListN.{length}
use lib.Dec.{leb, ltb}
use Rattle.wire_read.specs.Wire.{Bytes}
use Rattle.wire_read.specs.Answer.{Answer}
use Rattle.wire_read.proofs.Tests.{clash, by_test}
use Rattle.sequence_packet.specs.Packet.{Packet, Read, Refused}
use Rattle.sequence_table.specs.declared.table.Key.{Key}
use Rattle.sequence_record.specs.Receive.{verdict_answer}
use Rattle.sequence_packet.specs.Packets.{known, read}
use Rattle.sequence_table.specs.Table.{Table, rooms, words, find, free, with_receive, entry_at, put_entry, added, removed, judged_at, packet_read, packet, handed_out, next_to_send, loss, outcome_answer, sending_answer, counted_answer}
use Rattle.sequence_history.specs.History.{Call, adds, removes, shows, sends, asks, Event, is_done, key_read, key_of, lives, accepted, handed, entries, right_packet, right, answered, is_adding, accepted_then}
use Rattle.sequence_history.proofs.Record.{Shows, one-step, count-right}
use Rattle.sequence_history.proofs.Table.{Life, Keeps, keeps_absent, keeps_apart, keeps_begun, keeps_entry, keeps_ended, by_key, same_self, same_not}
use Rattle.sequence_history.proofs.Ways.{Does, refuses, begins-life, ends-life, judges, hands_out, tells, step_for, entry_for, does, call_apart}

abbrev pub life_of : (past : List Event) (key : Key) → Life
life_of past key = record { lives = lives key past; accepted = accepted key past; handed = handed key past }

abbrev pub Keeping : (t : Table) (past : List Event) (key : Key) → Type 0
Keeping t past key = Keeps t key (life_of past key)

-- a key that no room holds has no life, whatever words the table has
pub keeps_nothing : (t : Table) (key : Key) → rooms ≤ find t key → Keeping t [] key
unfolding lives
keeps_nothing t key absent = keeps_absent t key (life_of [] key) absent refl

leb-not : (x : ℕ) → leb rooms x ≡ not (ltb x rooms)
leb-not x =
    by_test (ltb x rooms)
    (λ e. rw e (lt-leb rooms x (ltb-true x rooms e)))
    (λ e. rw e (le-leb rooms x (ltb-false x rooms e)))

module _ (t : Table) (past : List Event) where
  -- ---- the answer is right

  module _ (key : Key) (k : Keeping t past key) where
    absent : leb rooms (find t key) ≡ not (lives key past)
    absent = leb-not (find t key) ∙ ap not k.present

    here : lives key past ≡ true → find t key < rooms
    here l = ltb-true (find t key) rooms (k.present ∙ l)

    -- where the table is full exactly by what came before
    pub adding_right : leb rooms (free t) ≡ leb rooms (entries past) → (answered t (adds key)).0 ≡ right past (adds key)
    unfolding answered right added outcome_answer
    adding_right full =
        by_test (known key.protocol)
        (λ e1.
        by_test (ltb key.spi 256) (λ e2. rw (e1, e2))
        (λ e2.
        by_test (lives key past) (λ e3. rw (e1, e2, k.present, e3))
        (λ e3. by_test (leb rooms (entries past)) (λ e4. rw (e1, e2, k.present, e3, full, e4)) (λ e4. rw (e1, e2, k.present, e3, full, e4)))))
        (λ e1. rw e1)

    removes-right : (answered t (removes key)).0 ≡ right past (removes key)
    unfolding answered right removed outcome_answer
    removes-right = by_test (lives key past) (λ l. rw (absent, l)) (λ l. rw (absent, l))

    sends-right : (answered t (sends key)).0 ≡ right past (sends key)
    unfolding answered right next_to_send handed_out sending_answer
    sends-right =
        by_test (lives key past)
        (λ l.
        let counted-so : (entry_at t (find t key)).counter ≡ length (handed key past) = (k.entry (here l)).counts in
        by_test (leb 4294967295 (length (handed key past))) (λ e. rw (absent, l, counted-so, e)) (λ e. rw (absent, l, counted-so, e)))
        (λ l. rw (absent, l))

    asks-right : (answered t (asks key)).0 ≡ right past (asks key)
    unfolding answered right loss counted_answer
    asks-right =
        by_test (lives key past)
        (λ l.
        let shown : Shows (entry_at t (find t key)).receive (accepted key past) = (k.entry (here l)).shown in
        rw (absent, l, shown.top, count-right (entry_at t (find t key)).receive (accepted key past) shown))
        (λ l. rw (absent, l))

  packet-right : (destination protocol : ℕ) (integrity : Bool) (p : Packet) → Keeping t past (key_read destination protocol p) →
      verdict_answer (packet_read t destination protocol integrity p).0 ≡ right_packet past destination protocol integrity p
  unfolding packet_read judged_at right_packet verdict_answer
  packet-right destination protocol integrity (Refused n) k = refl
  packet-right destination protocol integrity (Read spi number) k =
      let key : Key = record { destination = destination; protocol = protocol; spi = spi } in
      by_test (lives key past)
      (λ l.
      rw (absent key k, l) (one-step (entry_at t (find t key)).receive (accepted key past) (k.entry (here key k l)).shown number integrity).0)
      (λ l. rw (absent key k, l))

  -- every call but adding, for which other keys count too
  pub call-right : (c : Call) → is_adding c ≡ false → Keeping t past (key_of c) → (answered t c).0 ≡ right past c
  unfolding key_of
  call-right (adds key) h k = clash (sym h)
  call-right (removes key) h k = removes-right key k
  call-right (shows destination protocol integrity s) h k =
      unfold answered packet right in packet-right destination protocol integrity (read protocol s) k
  call-right (sends key) h k = sends-right key k
  call-right (asks key) h k = asks-right key k

  -- ---- what is kept

  module _ (long : length t ≡ rooms * words) where
    running : (key : Key) → Keeping t past key → find t key < rooms → lives key past ≡ true
    running key k here = sym k.present ∙ lt-ltb (find t key) rooms here

    module _ (key : Key) (integrity : Bool) (s : Bytes) (number : ℕ) (is : read key.protocol s ≡ Read key.spi number) where
      abbrev now_past : (a : Answer) → List Event
      now_past a = record { call = shows key.destination key.protocol integrity s; answer = a } ∷ past

      packet-life : (a : Answer) →
          life_of (now_past a) key ≡ record { lives = lives key past; accepted = accepted_then a number (accepted key past); handed = handed key past }
      unfolding lives accepted handed key_of
      packet-life a = by_test (is_done a) (λ h. rw (is, h, same_self key)) (λ h. rw h)

      packet-kept : find t key < rooms → Keeping t past (key_of (shows key.destination key.protocol integrity s)) →
          Keeping (put_entry t (find t key) (with_receive (entry_for t key) (step_for t key number integrity).receive))
          (now_past (verdict_answer (step_for t key number integrity).verdict)) (key_of (shows key.destination key.protocol integrity s))
      unfolding key_of
      packet-kept found kept =
          let a : Answer = verdict_answer (step_for t key number integrity).verdict in
          let k : Keeping t past key = rw is at kept in
          let q = one-step (entry_for t key).receive (accepted key past) (k.entry found).shown number integrity in
          rw (is, packet-life a)
          (keeps_entry t key long _ k found (with_receive (entry_for t key) (step_for t key number integrity).receive) (running key k found)
          (record { shown = rw q.0 q.1; counts = (k.entry found).counts }))

    -- of its own key
    own-by : {c : Call} {r : Answer × Table} → Does t c r → Keeping t past (key_of c) → Keeping r.1 (record { call = c; answer = r.0 } ∷ past) (key_of c)
    unfolding lives accepted handed key_of
    own-by (refuses h) k = rw h k
    own-by (begins-life {key = key} absent l) k = keeps_begun t key long _ absent l (rw (same_self key))
    own-by (ends-life {key = key} here) k = keeps_ended t key long _ k here (rw (same_self key))
    own-by (judges {integrity = integrity} {s = s} {number = number} key is here) k = packet-kept key integrity s number is here k
    own-by (hands_out {key = key} here) k =
        keeps_entry t key long _ k here _ (rw (same_self key) (running key k here))
        (rw (same_self key) (record { shown = (k.entry here).shown; counts = omega (arith, (k.entry here).counts) }))
    own-by (tells {key = key} here) k = unfold counted_answer in rw (same_self key) k

    -- and of another
    other-life : (c : Call) (a : Answer) (b : Key) → (key_of c ≡ b → ⊥) → life_of (record { call = c; answer = a } ∷ past) b ≡ life_of past b
    unfolding lives accepted handed
    other-life c a b d = rw (same_not (key_of c) b d, and-false (is_done a))

    pub call_keeps : (b : Key) → Keeping t past b → (c : Call) → Keeping (answered t c).1 (record { call = c; answer = (answered t c).0 } ∷ past) b
    call_keeps b k c =
        by_key (key_of c) b
        (λ e. rw (← e) (own-by (does t c) (rw e k)))
        (λ d. rw (other-life c (answered t c).0 b d) (keeps_apart k (call_apart t long c b d)))
