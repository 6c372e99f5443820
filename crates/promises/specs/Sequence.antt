-- Sequence numbers, in the demands' words. Definitions and proofs stand in crates/sequence_history.
use Rattle.std.specs.Prelude.{ℕ, ◌*◌, ◌<◌, min, ◌≡◌, refl, Bool, false, List, [], ◌∷◌, length, Result}
use Rattle.std.proofs.Common.{ap}
use Rattle.sequence_record.specs.declared.Receive.{Receive}
use Rattle.refusal.specs.declared.Refusal.{Refusal}
use Rattle.sequence_record.specs.Verdict.{verdict_told}
use Rattle.sequence_table.specs.declared.table.Key.{Key}
use Rattle.sequence_record.specs.Receive.{new_receive, judged, loss_line, verdict_answer}
use Rattle.sequence_packet.specs.Packets.{read, packet_answer}
use Rattle.sequence_table.specs.Table.{Table, rooms, words, empty, find, entry_at}
use Rattle.wire_read.specs.Wire.{Bytes}
use Rattle.wire_read.specs.Answer.{Answer, done}
use Rattle.sequence_history.specs.History.{Call, adds, shows, sends, asks, is_done, key_of, accepted, handed, highest, recent, right_number, answered, answered_all, right_all, Distinct, countdown, is_adding, RightFor, Carries, table_answers, lent_answers, lent_after, lent_accepted}
use Rattle.promises.specs.OneAnswerSequence.{Lent}
use Rattle.sequence_history.proofs.Record as Record
use Rattle.sequence_history.proofs.Ways as Ways
use Rattle.sequence_history.proofs.Runs as Runs
use Rattle.sequence_history.proofs.Keys as Keys

-- For every sequence of adds, removes, packets, sends and queries from an empty table, every answer is the one worked out afresh from the
-- list of what came before.
pub answers-right : (calls : List Call) → answered_all empty [] calls ≡ right_all [] calls
answers-right = Runs.answers-right

-- No sequence number is accepted twice in one life of an SA.
pub once_only : (calls : List Call) (key : Key) → Distinct (accepted key (answered_all empty [] calls))
once_only = Runs.once_only

-- The numbers handed out for sending in one life are 1, 2, 3, .. and never repeat.
pub sending_counts : (calls : List Call) (key : Key) → handed key (answered_all empty [] calls) ≡ countdown (length (handed key (answered_all empty [] calls)))
sending_counts = Runs.sending_counts

pub sending_once : (calls : List Call) (key : Key) → Distinct (handed key (answered_all empty [] calls))
sending_once = Runs.sending_once

-- The same from any words of the table: after an adding that is done, whatever calls of that key and of others follow, every call of the key but
-- adding is answered as worked out afresh from the list since that adding, no number is accepted twice in one life of it, and those handed out
-- for sending are 1, 2, 3, ..
module _ (t : Table) (key : Key) (long : length t ≡ rooms * words) (adding : (answered t (adds key)).0 ≡ done (1 ∷ [])) (calls : List Call) where
  pub any_words-right : RightFor key (answered_all t [] (adds key ∷ calls))
  any_words-right = Runs.any_words-right t key long adding calls

  pub any_words_once : Distinct (accepted key (answered_all t [] (adds key ∷ calls)))
  any_words_once = Runs.any_words_once t key long adding calls

  pub any_words_counts :
      handed key (answered_all t [] (adds key ∷ calls)) ≡ countdown (length (handed key (answered_all t [] (adds key ∷ calls))))
  any_words_counts = Runs.any_words_counts t key long adding calls

  pub any_words-sending_once : Distinct (handed key (answered_all t [] (adds key ∷ calls)))
  any_words-sending_once = Runs.any_words-sending_once t key long adding calls

-- A new life of a key starts empty, whatever the table's words were: its loss line, its first number for sending, its packets.
module _ (t u : Table) (key : Key) (long : length t ≡ rooms * words) (adding : answered t (adds key) ≡ (done (1 ∷ []), u)) where
  pub new_loss : (answered u (asks key)).0 ≡ done (0 ∷ 0 ∷ 0 ∷ [])
  new_loss = Keys.new_loss t u key long adding

  pub new_sending : (answered u (sends key)).0 ≡ done (1 ∷ [])
  new_sending = Keys.new_sending t u key long adding

  pub new_packet : (integrity : Bool) (s : Bytes) (number : ℕ) → packet_answer (read key.protocol s) ≡ done (key.spi ∷ number ∷ []) →
      (answered u (shows key.destination key.protocol integrity s)).0 ≡ right_number [] number integrity
  new_packet = Keys.new_packet t u key long adding

-- A call on one key changes nothing that can be asked of another, whatever the table's words are. (Adding another key may find the table
-- full: that is asked of the table.)
pub other_keys : (t : Table) → length t ≡ rooms * words → (c asked : Call) → (key_of c ≡ key_of asked → ⊥) → is_adding asked ≡ false →
    (answered (answered t c).1 asked).0 ≡ (answered t asked).0
other_keys = Keys.other_keys

-- The lent record and the table give the same answers: from the entry of any life on, and from a life's beginning.
pub lent_same : (key : Key) (packets : List (Bool × Bytes)) (numbers : List (Bool × ℕ)) → Carries key packets numbers →
    (t : Table) → length t ≡ rooms * words → find t key < rooms → table_answers t key packets ≡ lent_answers (entry_at t (find t key)).receive numbers
lent_same = Keys.lent_same

pub lent_from_new : (key : Key) (packets : List (Bool × Bytes)) (numbers : List (Bool × ℕ)) → Carries key packets numbers →
    (t u : Table) → length t ≡ rooms * words → answered t (adds key) ≡ (done (1 ∷ []), u) → table_answers u key packets ≡ lent_answers new_receive numbers
lent_from_new = Keys.lent_from_new

-- The lent record by itself. Calls of `step_in_place` on one record in turn: each keeps its contract, which is `Lent` (OneAnswerSequence.antt), so
-- that the answers are `lent_answers` and the record after them is `lent_after`.
pub data LentRun : (before : Receive) (numbers : List (Bool × ℕ)) (answers : List Answer) (after : Receive) → Type 0 where
  no_call : {r : Receive} → LentRun r [] [] r
  call : {before next after : Receive} {number : ℕ} {integrity : Bool} (verdict : Result ℕ Refusal) {numbers : List (Bool × ℕ)} {answers : List Answer} →
      Lent before number integrity next verdict → LentRun next numbers answers after →
      LentRun before ((integrity, number) ∷ numbers) (verdict_answer (verdict_told verdict) ∷ answers) after

pub lent-run : {before after : Receive} {numbers : List (Bool × ℕ)} {answers : List Answer} → LentRun before numbers answers after →
    (answers ≡ lent_answers before numbers) × (after ≡ lent_after before numbers)
unfolding lent_answers lent_after
lent-run no_call = (refl, refl)
lent-run (call verdict lent run) = let q = lent-run run in rw lent (ap (λ (l : List Answer). verdict_answer (verdict_told verdict) ∷ l) q.0, q.1)

-- For every sequence of steps from a new record: the next answer is the one worked out afresh from the numbers that the answers before it
-- accepted; none is accepted twice; and the loss line gives H, the lesser of H and 64, and how many of those last numbers were accepted.
pub lent-right : (numbers : List (Bool × ℕ)) (number : ℕ) (integrity : Bool) →
    verdict_answer (judged (lent_after new_receive numbers) number integrity).verdict ≡ right_number (lent_accepted numbers) number integrity
lent-right = Record.lent-right

pub lent_once : (numbers : List (Bool × ℕ)) → Distinct (lent_accepted numbers)
lent_once = Record.lent_once

pub lent-loss : (numbers : List (Bool × ℕ)) →
    loss_line (lent_after new_receive numbers)
    ≡ record { highest = highest (lent_accepted numbers); span = min (highest (lent_accepted numbers)) 64; count = recent (lent_accepted numbers) }
lent-loss = Record.lent-loss

-- A refusal changes nothing, and the same call again is refused again: a sending counter at its end stays there.
pub refused-nothing : (t : Table) (c : Call) → is_done (answered t c).0 ≡ false → (answered t c).1 ≡ t
refused-nothing = Ways.refused-nothing

pub refused_again : (t : Table) (c : Call) → is_done (answered t c).0 ≡ false → answered (answered t c).1 c ≡ answered t c
refused_again t c h = ap (λ (u : Table). answered u c) (Ways.refused-nothing t c h)
