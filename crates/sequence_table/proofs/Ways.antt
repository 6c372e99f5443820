-- A law for each way out of this crate's functions: what the definitions say under the tests that the code makes.
use Prim.Native.Nat.{ℕ, suc, ◌+◌, ◌-◌, ◌*◌, ◌≤◌, ◌<◌}
use mathlib.Core.Path.{◌≡◌, refl, sym, ap, ◌∙◌}
use Rattle.std.specs.Prelude.{Option, None, Some, Result, Ok, Err, IfSome, unwrap_or, is_some, ok_or, IsErrAnd}
use Rattle.refusal.specs.declared.Refusal.{Refusal}
use Rattle.wire_read.proofs.Tests.{never}
use mathlib.Core.List.{List}
use mathlib.Core.Bool.{Bool, true, false, not, ◌&&◌}
use native.Mathlib.Omega.{arith}
use lib.ListN.{set}
use lib.Dec.{eqb}
use borrow.Author.Tests.{lt-ltb, le-ltb, le-leb, lt-leb, eq-eqb, ne_eqb}
use Rattle.wire_read.specs.Tests.{if◌then◌otherwise◌}
use Rattle.sequence_record.proofs.Told.{handed_on}
use Rattle.sequence_record.specs.Receive.{new_receive, judged, loss_line}
use Rattle.sequence_record.specs.declared.Receive.{Receive}
use Rattle.sequence_record.specs.Verdict.{Judged}
use Rattle.sequence_packet.specs.Packets.{known, read}
use Rattle.sequence_packet.specs.Packet.{Packet}
use Rattle.sequence_packet.specs.Packet as Packets
use Rattle.sequence_table.specs.Table.{Table, rooms, words, mark_in, destination_in, spi_in, holds, is_free, first_place, find, free, put_key, emptied, new_entry, with_receive, with_counter, entry_at, put_entry, added, removed, judged_at, packet_read, packet, handed_out, next_to_send, loss}
use Rattle.sequence_record.specs.Verdict as Verdicts
use Rattle.sequence_record.specs.declared.LossLine.{LossLine}
use Rattle.sequence_table.specs.declared.table.Key.{Key}
use Rattle.sequence_table.specs.declared.table.Entry.{Entry}
use Rattle.sequence_table.specs.Outcome as Outcomes
use Rattle.sequence_table.specs.Sending as Sendings
use Rattle.sequence_table.specs.Counted as Counts

module _ (t : Table) (key : Key) (i : ℕ) where
  pub holds-spi : spi_in t i ≡ key.spi → (eqb (mark_in t i) (key.protocol + 1) && eqb (destination_in t i) key.destination) ≡ holds t key i
  unfolding holds
  holds-spi e = rw (eq-eqb (spi_in t i) key.spi e)

  pub holds_not : (spi_in t i ≡ key.spi → ⊥) → eqb (spi_in t i) key.spi ≡ holds t key i
  unfolding holds
  holds_not e = rw (ne_eqb (spi_in t i) key.spi e)

first_step : (test : ℕ → Bool) (i : ℕ) → i < rooms → first_place test (rooms - i) i ≡ (if test i then i otherwise first_place test (rooms - (i + 1)) (i + 1))
unfolding first_place
first_step test i h = let e : rooms - i ≡ suc (rooms - (i + 1)) = omega arith in rw e

-- what is looked for from i on is x
module _ (test : ℕ → Bool) (i x : ℕ) (so_far : first_place test (rooms - i) i ≡ x) where
  pub first-end : i ≤ rooms → rooms ≤ i → rooms ≡ x
  unfolding first_place
  first-end l h =
      let e : rooms - i ≡ 0 = omega arith in
      let ended : i ≡ x = rw e at so_far in
      omega arith

  module _ (more : i < rooms) (b : Bool) (eb : b ≡ test i) where
    pub first-here : b ≡ true → i ≡ x
    first-here h = sym (first_step test i more ∙ rw (← eb, h)) ∙ so_far

    pub first_on : b ≡ false → first_place test (rooms - (i + 1)) (i + 1) ≡ x
    first_on h = sym (first_step test i more ∙ rw (← eb, h)) ∙ so_far

module _ (t : Table) (i : ℕ) (so_far : first_place (is_free t) (rooms - i) i ≡ free t) (more : i < rooms) where
  pub free-here : mark_in t i ≡ 0 → i ≡ free t
  unfolding is_free
  free-here h = first-here (is_free t) i (free t) so_far more true (sym (eq-eqb (mark_in t i) 0 h)) refl

  pub free_on : (mark_in t i ≡ 0 → ⊥) → first_place (is_free t) (rooms - (i + 1)) (i + 1) ≡ free t
  unfolding is_free
  free_on h = first_on (is_free t) i (free t) so_far more false (sym (ne_eqb (mark_in t i) 0 h)) refl

-- ---- a room that is looked for, and the refusal where there is none

module _ (sought : Option ℕ) (i : ℕ) (place : unwrap_or sought rooms ≡ i) where
  pub none_there : is_some sought ≡ false → rooms ≡ i
  none_there h = absent sought place h
    where
      absent : (o : Option ℕ) → unwrap_or o rooms ≡ i → is_some o ≡ false → rooms ≡ i
      absent None e h = e
      absent (Some x) e h = never (cc)

  module _ (within : IfSome sought (λ room. room < rooms)) where
    pub some_there : is_some sought ≡ true → i < rooms
    some_there h = present sought place within h
      where
        present : (o : Option ℕ) → unwrap_or o rooms ≡ i → IfSome o (λ room. room < rooms) → is_some o ≡ true → i < rooms
        present None e l h = never (cc)
        present (Some x) e l h = rw e at l

    pub room-there : (why : Refusal) (asked : Result ℕ Refusal) → asked ≡ ok_or sought why → (room : ℕ) → asked ≡ Ok room →
        (room ≡ i) × (room < rooms)
    room-there why asked ea room e = found sought place within (sym ea ∙ e)
      where
        found : (o : Option ℕ) → unwrap_or o rooms ≡ i → IfSome o (λ room. room < rooms) → ok_or o why ≡ Ok room → (room ≡ i) × (room < rooms)
        found None p l q = never (cc)
        found (Some x) p l q = let same : x ≡ room = cc in (sym same ∙ p, rw same at l)

  -- where there is none, a `?` hands on the refusal that `ok_or` has for it
  pub no-room : {A : Type 0} (why : Refusal) (asked : Result ℕ Refusal) → asked ≡ ok_or sought why → (given : Refusal) → asked ≡ Err given →
      (answer : Result A Refusal) → IsErrAnd answer (λ refusal. refusal ≡ given) → (rooms ≡ i) × (answer ≡ Err why)
  no-room why asked ea given e answer told =
      let why_told = missed sought place (sym ea ∙ e) in (why_told.0, handed_on answer given told ∙ ap Err why_told.1)
    where
      missed : (o : Option ℕ) → unwrap_or o rooms ≡ i → ok_or o why ≡ Err given → (rooms ≡ i) × (given ≡ why)
      missed None p q = let same : why ≡ given = cc in (p, sym same)
      missed (Some x) p q = never (cc)

-- ---- calls

module _ (t : Table) (key : Key) (k : Bool) (ek : k ≡ known key.protocol) where
  pub add_unknown : not k ≡ true → added t key ≡ (Outcomes.Refused 10, t)
  unfolding added
  add_unknown h = rw (← ek, h)

  module _ (h : not k ≡ false) where
    pub add_low : key.spi < 256 → added t key ≡ (Outcomes.Refused 11, t)
    unfolding added
    add_low l = rw (← ek, h, lt-ltb key.spi 256 l)

    module _ (high : 256 ≤ key.spi) where
      pub add_present : find t key < rooms → added t key ≡ (Outcomes.Refused 8200, t)
      unfolding added
      add_present l = rw (← ek, h, le-ltb key.spi 256 high, lt-ltb (find t key) rooms l)

      module _ (absent : rooms ≡ find t key) where
        pub add_full : rooms ≡ free t → added t key ≡ (Outcomes.Refused 8199, t)
        unfolding added
        add_full e = rw (← ek, h, le-ltb key.spi 256 high, ← absent, ← e)

        pub add_done : (j : ℕ) → j ≡ free t → j < rooms → (keyed done : Table) (r : Receive) → keyed ≡ put_key t j key → r ≡ new_receive →
            done ≡ put_entry keyed j (with_receive new_entry r) → added t key ≡ (Outcomes.Done, done)
        unfolding added
        add_done j ej l keyed done r e1 e2 e3 =
            rw (← ek, h, le-ltb key.spi 256 high, ← absent, ← ej, lt-leb rooms j l, e3, e2, e1)

module _ (t : Table) (key : Key) where
  module _ (absent : rooms ≡ find t key) where
    pub remove_absent : removed t key ≡ (Outcomes.Refused 11, t)
    unfolding removed
    remove_absent = rw (← absent)

    pub send_absent : next_to_send t key ≡ (Sendings.Refused 11, t)
    unfolding next_to_send
    send_absent = rw (← absent)

    pub loss-absent : Counts.Refused 11 ≡ loss t key
    unfolding loss
    loss-absent = rw (← absent)

  module _ (i : ℕ) (ei : i ≡ find t key) (present : i < rooms) where
    pub remove_done : removed t key ≡ (Outcomes.Done, set t (i * words) 0)
    unfolding removed emptied
    remove_done = rw (← ei, lt-leb rooms i present)

    module _ (e : Entry) (ee : e ≡ entry_at t i) where
      pub send_end : 4294967295 ≤ e.counter → next_to_send t key ≡ (Sendings.Refused 8198, t)
      unfolding next_to_send handed_out
      send_end h = rw (← ei, lt-leb rooms i present, ← ee, le-leb 4294967295 e.counter h)

      pub send_done : e.counter < 4294967295 → (done : Table) → done ≡ put_entry t i (with_counter e (e.counter + 1)) →
          next_to_send t key ≡ (Sendings.Number (e.counter + 1), done)
      unfolding next_to_send handed_out
      send_done h done ed = rw (← ei, lt-leb rooms i present, ← ee, lt-leb 4294967295 e.counter h, ed)

      pub loss-done : (l : LossLine) → l ≡ loss_line e.receive → Counts.Line l ≡ loss t key
      unfolding loss
      loss-done l el = rw (← ei, lt-leb rooms i present, ← ee, el)

module _ (t : Table) (s : List ℕ) (destination protocol : ℕ) (integrity : Bool) where
  pub packet-unread : (number : ℕ) → Packets.Refused number ≡ read protocol s → packet t destination protocol integrity s ≡ (Verdicts.Refused number, t)
  unfolding packet packet_read
  packet-unread number e = rw (← e)

  module _ (spi number : ℕ) (e : Packets.Read spi number ≡ read protocol s) where
    pub packet-absent : rooms ≡ find t (record { destination = destination; protocol = protocol; spi = spi }) →
        packet t destination protocol integrity s ≡ (Verdicts.Refused 11, t)
    unfolding packet packet_read
    packet-absent absent = rw (← e, ← absent)

    pub packet-judged : (i : ℕ) → i ≡ find t (record { destination = destination; protocol = protocol; spi = spi }) → i < rooms →
        (x : Entry) → x ≡ entry_at t i → (j : Judged) → j ≡ judged x.receive number integrity →
        (done : Table) → done ≡ put_entry t i (with_receive x j.receive) → packet t destination protocol integrity s ≡ (j.verdict, done)
    unfolding packet packet_read judged_at
    packet-judged i ei h x ex j ej done ed = rw (← e, ← ei, lt-leb rooms i h, ← ex, ← ej, ed)
