-- Rises: what an acceptance carries is H after it less H before it, and those of a life add up to its H.
use Prim.Native.Nat.{ℕ, ◌+◌, ◌-◌, ◌*◌}
use mathlib.Core.Path.{◌≡◌, refl, sym, ap, ◌∙◌}
use mathlib.Core.Bool.{Bool, true, false, not, ◌||◌}
use mathlib.Core.List.{List, [], ◌∷◌}
use native.Mathlib.Omega.{arith}
use lib.ListN.{length}
use lib.Dec.{eqb, leb}
use Rattle.wire_read.specs.Wire.{Bytes}
use Rattle.wire_read.specs.Answer.{Answer, refused, done}
use Rattle.wire_read.specs.Tests.{if◌then◌otherwise◌}
use Rattle.wire_read.proofs.Tests.{clash, by_test}
use Rattle.sequence_record.specs.declared.Receive.{Receive}
use Rattle.sequence_record.specs.Receive.{new_receive, behind, accepted_before, judged, verdict_answer}
use Rattle.sequence_packet.specs.Packet.{Packet, Read, Refused}
use Rattle.sequence_packet.specs.Packets.{read}
use Rattle.sequence_table.specs.declared.table.Key.{Key}
use Rattle.sequence_table.specs.Table.{Table, rooms, words, empty}
use Rattle.sequence_history.specs.History.{Call, adds, removes, shows, sends, asks, Event, is_done, key_read, number_read, key_of, is_adding, is_showing, RightFor, RisesFor, deed, deed_for, lives, accepted, accepted_after, highest, member, rise_given, rises_after, rises, total, right_number, right_packet, right, answered, answered_all, lent_answers, lent_after, lent_accepted, rises_by}
use Rattle.sequence_history.proofs.Record.{judged-refused, lent-shown, lent-right}
use Rattle.sequence_history.proofs.Table.{same_self}
use Rattle.sequence_history.proofs.Ways.{unread}
use Rattle.sequence_history.proofs.Runs.{by-deed, from_empty, any_words-right}

-- H with a number accepted, less H
abbrev pub rise_by : (numbers : List ℕ) (n : ℕ) → ℕ
rise_by numbers n = highest (n ∷ numbers) - highest numbers

-- a number that is right to accept is answered with its rise
pub right-rise : (numbers : List ℕ) (n : ℕ) (integrity : Bool) → is_done (right_number numbers n integrity) ≡ true →
    right_number numbers n integrity ≡ done (rise_by numbers n ∷ [])
unfolding right_number
right-rise numbers n integrity = of (eqb n 0 || leb (n + 64) (highest numbers)) (member n numbers) integrity
  where
    answer : (b again integrity : Bool) → Answer
    answer b again integrity =
        if b then refused 8197 otherwise if again then refused 8194 otherwise if not integrity then refused 24 otherwise done (rise_by numbers n ∷ [])

    of : (b again integrity : Bool) → is_done (answer b again integrity) ≡ true → answer b again integrity ≡ done (rise_by numbers n ∷ [])
    of true again integrity h = clash h
    of false true integrity h = clash h
    of false false true h = refl
    of false false false h = clash h

-- ---- a history in which a key's calls are answered rightly

module _ (past : List Event) (key : Key) where
  packet-rise : (destination protocol : ℕ) (integrity : Bool) (s : Bytes) (p : Packet) → read protocol s ≡ p →
      is_done (right_packet past destination protocol integrity p) ≡ true → key_read destination protocol p ≡ key →
      right_packet past destination protocol integrity p ≡ done (rise_by (accepted key past) (number_read p) ∷ [])
  unfolding right_packet
  packet-rise destination protocol integrity s (Refused n) is h e = clash (sym (unread protocol s n is) ∙ h)
  packet-rise destination protocol integrity s (Read spi n) is h e =
      rw e (of (lives key past) (rw e at h))
    where
      answer : (b : Bool) → Answer
      answer b = if not b then refused 11 otherwise right_number (accepted key past) n integrity

      of : (b : Bool) → is_done (answer b) ≡ true → answer b ≡ done (rise_by (accepted key past) n ∷ [])
      of true h = right-rise (accepted key past) n integrity h
      of false h = clash h

  -- a packet of the key that is answered rightly and accepted
  shown-rise : (c : Call) (a : Answer) → (key_of c ≡ key → is_adding c ≡ false → a ≡ right past c) → is_showing c ≡ true → is_done a ≡ true → key_of c ≡ key →
      a ≡ done ((highest (accepted_after (deed c a) (accepted key past)) - highest (accepted key past)) ∷ [])
  unfolding right key_of
  shown-rise (adds k) a r w h e = clash w
  shown-rise (removes k) a r w h e = clash w
  shown-rise (shows destination protocol integrity s) a r w h e =
      let is = r e refl in
      is ∙ packet-rise destination protocol integrity s (read protocol s) refl (rw is at h) e
  shown-rise (sends k) a r w h e = clash w
  shown-rise (asks k) a r w h e = clash w

  -- what is done for the key keeps the total at H
  kept-total : total (rises key past) ≡ highest (accepted key past) → (c : Call) (a : Answer) →
      (key_of c ≡ key → is_adding c ≡ false → a ≡ right past c) → is_done a ≡ true → key_of c ≡ key →
      total (rises_after (deed c a) a (rises key past)) ≡ highest (accepted_after (deed c a) (accepted key past))
  kept-total before (adds k) a r h e = refl
  kept-total before (removes k) a r h e = refl
  kept-total before (shows destination protocol integrity s) a r h e =
      let is : rise_given a ≡ rise_by (accepted key past) (number_read (read protocol s)) =
      ap rise_given (shown-rise (shows destination protocol integrity s) a r refl h e) in
      omega (arith, is, before)
  kept-total before (sends k) a r h e = before
  kept-total before (asks k) a r h e = before

own-deed : (key : Key) (e : Event) → is_done e.answer ≡ true → key_of e.call ≡ key → deed_for key e ≡ deed e.call e.answer
own-deed key e h q = rw (h, q, same_self key)

right-rises : (key : Key) (past : List Event) → RightFor key past → RisesFor key past
unfolding accepted RightFor RisesFor
right-rises key [] r = tt
right-rises key (e ∷ past) r =
    ((λ w h q. rw (own-deed key e h q) (shown-rise past key e.call e.answer r.0 w h q)), right-rises key past r.1)

right-total : (key : Key) (past : List Event) → RightFor key past → total (rises key past) ≡ highest (accepted key past)
unfolding accepted rises RightFor
right-total key [] r = refl
right-total key (e ∷ past) r =
    let before : total (rises key past) ≡ highest (accepted key past) = right-total key past r.1 in
    by-deed key e (λ d. total (rises_after d e.answer (rises key past)) ≡ highest (accepted_after d (accepted key past))) before
    (λ h q. kept-total past key before e.call e.answer r.0 h q)

-- from an empty table, and from any words in which the key's adding is done
module _ (calls : List Call) (key : Key) where
  pub rises-right : RisesFor key (answered_all empty [] calls)
  rises-right = right-rises key (answered_all empty [] calls) (from_empty calls key)

  pub rises_add_up : total (rises key (answered_all empty [] calls)) ≡ highest (accepted key (answered_all empty [] calls))
  rises_add_up = right-total key (answered_all empty [] calls) (from_empty calls key)

module _ (t : Table) (key : Key) (long : length t ≡ rooms * words) (adding : (answered t (adds key)).0 ≡ done (1 ∷ [])) (calls : List Call) where
  pub any_words-rises : RisesFor key (answered_all t [] (adds key ∷ calls))
  any_words-rises = right-rises key (answered_all t [] (adds key ∷ calls)) (any_words-right t key long adding calls)

  pub any_words_add_up : total (rises key (answered_all t [] (adds key ∷ calls))) ≡ highest (accepted key (answered_all t [] (adds key ∷ calls)))
  any_words_add_up = right-total key (answered_all t [] (adds key ∷ calls)) (any_words-right t key long adding calls)

-- ---- a lent record

module _ (r : Receive) (n : ℕ) (integrity : Bool) where
  abbrev pub told : Answer
  told = verdict_answer (judged r n integrity).verdict

  step-rises : is_done told ≡ true → rise_given told + r.highest ≡ (judged r n integrity).receive.highest
  unfolding judged verdict_answer
  step-rises h =
      by_test (behind r.highest n) (λ b. clash (rw b at h))
      (λ b.
      by_test (accepted_before r n) (λ again. clash (rw (b, again) at h))
      (λ again. by_test integrity (λ w. rw (b, again, w) (omega arith)) (λ w. clash (rw (b, again, w) at h))))

-- from any record on, the highest rises by so much as all rises together
pub lent_total : (numbers : List (Bool × ℕ)) (r : Receive) → total (rises_by (lent_answers r numbers)) + r.highest ≡ (lent_after r numbers).highest
unfolding lent_answers lent_after rises_by
lent_total [] r = omega arith
lent_total ((integrity, n) ∷ numbers) r =
    let on = lent_total numbers (judged r n integrity).receive in
    by_test (is_done (told r n integrity))
    (λ h. rw h (omega (arith, step-rises r n integrity h, on)))
    (λ h. rw h (omega (arith, ap (λ (x : Receive). x.highest) (judged-refused r n integrity h), on)))

module _ (numbers : List (Bool × ℕ)) where
  pub lent-rise : (number : ℕ) (integrity : Bool) → is_done (told (lent_after new_receive numbers) number integrity) ≡ true →
      told (lent_after new_receive numbers) number integrity ≡ done (rise_by (lent_accepted numbers) number ∷ [])
  lent-rise number integrity h =
      let is = lent-right numbers number integrity in
      is ∙ right-rise (lent_accepted numbers) number integrity (rw is at h)

  pub lent_add_up : total (rises_by (lent_answers new_receive numbers)) ≡ highest (lent_accepted numbers)
  lent_add_up = omega (arith, lent_total numbers new_receive, (lent-shown numbers).top)
