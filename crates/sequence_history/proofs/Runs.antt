-- Runs of calls: from an empty table the answers are the right ones, and so they are for one key from any words in which its adding is done; what
-- is right for a key keeps its accepted numbers distinct and its numbers for sending counting.
use Prim.Native.Nat.{ℕ, zero, suc, ◌+◌, ◌*◌, ◌≤◌, ◌<◌}
use mathlib.Core.Path.{◌≡◌, refl, sym, ap, ap₂, ◌∙◌}
use mathlib.Core.Bool.{Bool, true, false, not}
use mathlib.Core.List.{List, [], ◌∷◌}
use native.Mathlib.Omega.{arith}
use borrow.Author.Tests.{ne_eqb}
use lib.ListN.{length}
use lib.Dec.{leb}
use Rattle.wire_read.specs.Tests.{if◌then◌otherwise◌}
use Rattle.wire_read.proofs.Tests.{never, clash, by_test}
use Rattle.sequence_packet.specs.Packet.{Packet, Read, Refused}
use Rattle.sequence_table.specs.declared.table.Key.{Key}
use Rattle.sequence_packet.specs.Packets.{read}
use Rattle.sequence_table.specs.Table.{Table, rooms, words, empty, find}
use Rattle.wire_read.specs.Wire.{Bytes}
use Rattle.wire_read.specs.Answer.{Answer, refused, done}
use Rattle.sequence_history.specs.History.{Call, adds, removes, shows, sends, asks, Event, is_done, same, key_read, number_read, key_of, is_adding, Distinct, countdown, RightFor, Deed, begins, ends, accepts, hands, none, deed, number_handed, deed_for, lives, accepted, accepted_after, handed, handed_after, entries, member, right_number, right_packet, right, answered, answered_all, right_all}
use Rattle.sequence_history.proofs.Record.{accepts_new}
use Rattle.sequence_history.proofs.Table.{same_true, taken_rooms, full-taken, empty-long, empty-absent, empty-taken}
use Rattle.sequence_history.proofs.Ways.{unread, call_length, call-taken, adding_done}
use Rattle.sequence_history.proofs.Calls.{Keeping, keeps_nothing, adding_right, call-right, call_keeps}

-- ---- against the history

-- what a table keeps of all keys, and how many rooms are taken
record KeepsAll (t : Table) (past : List Event) : Type 0 where
  long : length t ≡ rooms * words
  each : (key : Key) → Keeping t past key
  many : taken_rooms t ≡ entries past

all_right : (t : Table) (past : List Event) → KeepsAll t past → (c : Call) → (answered t c).0 ≡ right past c
all_right t past k (adds key) = adding_right t past key (k.each key) (full-taken t ∙ ap (leb rooms) k.many)
all_right t past k (removes key) = call-right t past (removes key) refl (k.each _)
all_right t past k (shows destination protocol integrity s) = call-right t past (shows destination protocol integrity s) refl (k.each _)
all_right t past k (sends key) = call-right t past (sends key) refl (k.each _)
all_right t past k (asks key) = call-right t past (asks key) refl (k.each _)

all-kept : (t : Table) (past : List Event) → KeepsAll t past → (c : Call) →
    KeepsAll (answered t c).1 (record { call = c; answer = (answered t c).0 } ∷ past)
unfolding entries
all-kept t past k c =
    record {
      long = call_length t c ∙ k.long;
      each = λ key. call_keeps t past k.long key (k.each key) c;
      many = rw (← k.many) (call-taken t k.long c);
    }

answers_agree : (calls : List Call) (t : Table) (past : List Event) → KeepsAll t past → answered_all t past calls ≡ right_all past calls
unfolding answered_all right_all
answers_agree [] t past k = refl
answers_agree (c ∷ calls) t past k =
    answers_agree calls (answered t c).1 (record { call = c; answer = (answered t c).0 } ∷ past) (all-kept t past k c)
    ∙ ap (λ (a : Answer). right_all (record { call = c; answer = a } ∷ past) calls) (all_right t past k c)

empty_keeps : (key : Key) → Keeping empty [] key
empty_keeps key = keeps_nothing empty key (omega (arith, empty-absent key))

-- For every sequence of calls from an empty table, every answer is the one worked out afresh from the list of what came before.
pub answers-right : (calls : List Call) → answered_all empty [] calls ≡ right_all [] calls
unfolding entries
answers-right calls = answers_agree calls empty [] (record { long = empty-long; each = empty_keeps; many = empty-taken })

-- ---- of one key, whatever other words the table has

right-on : (key : Key) (calls : List Call) (t : Table) (past : List Event) → length t ≡ rooms * words → Keeping t past key → RightFor key past →
    RightFor key (answered_all t past calls)
unfolding answered_all RightFor
right-on key [] t past long k h = h
right-on key (c ∷ calls) t past long k h =
    right-on key calls (answered t c).1 (record { call = c; answer = (answered t c).0 } ∷ past) (call_length t c ∙ long) (call_keeps t past long key k c)
    ((λ e n. call-right t past c n (rw e k)), h)

right_from : (t : Table) (key : Key) → length t ≡ rooms * words → rooms ≤ find t key → (calls : List Call) → RightFor key (answered_all t [] calls)
right_from t key long absent calls = right-on key calls t [] long (keeps_nothing t key absent) (unfold RightFor in tt)

-- an event is nothing to the key, or a deed of a call of its own that is done
pub by-deed : (key : Key) (e : Event) (A : Deed → Type 0) → A none → (is_done e.answer ≡ true → key_of e.call ≡ key → A (deed e.call e.answer)) →
    A (deed_for key e)
by-deed key e A nothing its =
    by_test (is_done e.answer)
    (λ h. by_test (same (key_of e.call) key) (λ q. rw (h, q) (its h (same_true (key_of e.call) key q))) (λ q. rw (h, q) nothing))
    (λ h. rw h nothing)

-- ---- once only

module _ (past : List Event) (key : Key) where
  -- what is done for the key keeps its numbers distinct
  kept_distinct : Distinct (accepted key past) → (d : Deed) → ((n : ℕ) → d ≡ accepts n → member n (accepted key past) ≡ false) →
      Distinct (accepted_after d (accepted key past))
  kept_distinct distinct begins h = tt
  kept_distinct distinct ends h = tt
  kept_distinct distinct (accepts n) h = (h n refl, distinct)
  kept_distinct distinct (hands n) h = distinct
  kept_distinct distinct none h = distinct

  packet_new : (destination protocol : ℕ) (integrity : Bool) (s : Bytes) (p : Packet) → read protocol s ≡ p →
      is_done (right_packet past destination protocol integrity p) ≡ true → key_read destination protocol p ≡ key →
      member (number_read p) (accepted key past) ≡ false
  unfolding right_packet
  packet_new destination protocol integrity s (Refused n) is h e = clash (sym (unread protocol s n is) ∙ h)
  packet_new destination protocol integrity s (Read spi n) is h e =
      of (lives key past) (rw e at h)
    where
      of : (b : Bool) → is_done (if not b then refused 11 otherwise right_number (accepted key past) n integrity) ≡ true → member n (accepted key past) ≡ false
      of true h = accepts_new (accepted key past) n integrity h
      of false h = clash h

  -- the deed of a call that is answered rightly is no acceptance of a number accepted before
  right_new : (c : Call) (a : Answer) → (key_of c ≡ key → is_adding c ≡ false → a ≡ right past c) → is_done a ≡ true → key_of c ≡ key →
      (n : ℕ) → deed c a ≡ accepts n → member n (accepted key past) ≡ false
  unfolding right key_of
  right_new (adds k) a r h e n d = never (cc)
  right_new (removes k) a r h e n d = never (cc)
  right_new (shows destination protocol integrity s) a r h e n d =
      let is : number_read (read protocol s) ≡ n = cc in
      rw is at (packet_new destination protocol integrity s (read protocol s) refl (rw (r e refl) at h) e)
  right_new (sends k) a r h e n d = never (cc)
  right_new (asks k) a r h e n d = never (cc)

right_distinct : (key : Key) (past : List Event) → RightFor key past → Distinct (accepted key past)
unfolding accepted RightFor
right_distinct key [] r = tt
right_distinct key (e ∷ past) r =
    let before : Distinct (accepted key past) = right_distinct key past r.1 in
    by-deed key e (λ d. Distinct (accepted_after d (accepted key past))) before
    (λ h q. kept_distinct past key before (deed e.call e.answer) (right_new past key e.call e.answer r.0 h q))

-- ---- sending

module _ (past : List Event) (key : Key) where
  kept_counting : handed key past ≡ countdown (length (handed key past)) → (d : Deed) → ((n : ℕ) → d ≡ hands n → n ≡ length (handed key past) + 1) →
      handed_after d (handed key past) ≡ countdown (length (handed_after d (handed key past)))
  unfolding countdown
  kept_counting counting begins h = refl
  kept_counting counting ends h = refl
  kept_counting counting (accepts n) h = counting
  kept_counting counting (hands n) h =
      let e : n ≡ suc (length (handed key past)) = omega (arith, h n refl) in ap₂ (λ (x : ℕ) (l : List ℕ). x ∷ l) e counting
  kept_counting counting none h = counting

  right-next : is_done (right past (sends key)) ≡ true → number_handed (right past (sends key)) ≡ length (handed key past) + 1
  unfolding right
  right-next = of (lives key past) (leb 4294967295 (length (handed key past)))
    where
      answer : (a b : Bool) → Answer
      answer a b = if not a then refused 11 otherwise if b then refused 8198 otherwise done ((length (handed key past) + 1) ∷ [])

      of : (a b : Bool) → is_done (answer a b) ≡ true → number_handed (answer a b) ≡ length (handed key past) + 1
      of true true h = clash h
      of true false h = refl
      of false b h = clash h

  right-hands : (c : Call) (a : Answer) → (key_of c ≡ key → is_adding c ≡ false → a ≡ right past c) → is_done a ≡ true → key_of c ≡ key →
      (n : ℕ) → deed c a ≡ hands n → n ≡ length (handed key past) + 1
  unfolding key_of
  right-hands (adds k) a r h e n d = never (cc)
  right-hands (removes k) a r h e n d = never (cc)
  right-hands (shows destination protocol integrity s) a r h e n d = never (cc)
  right-hands (sends k) a r h e n d =
      let is : number_handed a ≡ n = cc in
      let q : a ≡ right past (sends key) = r e refl ∙ ap (λ (x : Key). right past (sends x)) e in
      sym is ∙ ap number_handed q ∙ right-next (rw q at h)
  right-hands (asks k) a r h e n d = never (cc)

right_counts : (key : Key) (past : List Event) → RightFor key past → handed key past ≡ countdown (length (handed key past))
unfolding handed countdown RightFor
right_counts key [] r = refl
right_counts key (e ∷ past) r =
    let before : handed key past ≡ countdown (length (handed key past)) = right_counts key past r.1 in
    by-deed key e (λ d. handed_after d (handed key past) ≡ countdown (length (handed_after d (handed key past)))) before
    (λ h q. kept_counting past key before (deed e.call e.answer) (right-hands past key e.call e.answer r.0 h q))

countdown_below : (m n : ℕ) → n < m → member m (countdown n) ≡ false
unfolding countdown
countdown_below m zero h = refl
countdown_below m (suc n) h = let d : m ≡ suc n → ⊥ = omega arith in rw (ne_eqb m (suc n) d) (countdown_below m n (omega arith))

countdown_distinct : (n : ℕ) → Distinct (countdown n)
unfolding countdown
countdown_distinct zero = tt
countdown_distinct (suc n) = (countdown_below (suc n) n (omega arith), countdown_distinct n)

counts_once : (numbers : List ℕ) → numbers ≡ countdown (length numbers) → Distinct numbers
counts_once numbers h = rw h (countdown_distinct (length numbers))

-- ---- from an empty table, and from any words in which a key's adding is done

module _ (calls : List Call) (key : Key) where
  abbrev history : List Event
  history = answered_all empty [] calls

  pub from_empty : RightFor key history
  from_empty = right_from empty key empty-long (omega (arith, empty-absent key)) calls

  -- No sequence number is accepted twice in one life of an SA.
  pub once_only : Distinct (accepted key history)
  once_only = right_distinct key history from_empty

  -- The numbers handed out for sending in one life are 1, 2, 3, ..
  pub sending_counts : handed key history ≡ countdown (length (handed key history))
  sending_counts = right_counts key history from_empty

  -- .. and never repeat.
  pub sending_once : Distinct (handed key history)
  sending_once = counts_once (handed key history) sending_counts

module _ (t : Table) (key : Key) (long : length t ≡ rooms * words) (adding : (answered t (adds key)).0 ≡ done (1 ∷ [])) (calls : List Call) where
  abbrev since : List Event
  since = answered_all t [] (adds key ∷ calls)

  pub any_words-right : RightFor key since
  any_words-right = right_from t key long (adding_done t key adding).absent (adds key ∷ calls)

  pub any_words_once : Distinct (accepted key since)
  any_words_once = right_distinct key since any_words-right

  pub any_words_counts : handed key since ≡ countdown (length (handed key since))
  any_words_counts = right_counts key since any_words-right

  pub any_words-sending_once : Distinct (handed key since)
  any_words-sending_once = counts_once (handed key since) any_words_counts
