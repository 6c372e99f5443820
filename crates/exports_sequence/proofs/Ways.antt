-- A law for each way out of this crate's functions: what an answer of the core is as it is given.
use Prim.Native.Nat.{ℕ}
use mathlib.Core.Path.{◌≡◌}
use mathlib.Core.List.{List, [], ◌∷◌}
use mathlib.Core.Bool.{Bool}
use Rattle.wire_read.specs.Answer.{Answer}
use Rattle.exports_words.specs.Given.{given, left, words}
use Rattle.sequence_record.specs.declared.Receive.{Receive}
use Rattle.std.specs.Prelude.{Result, Ok, Err}
use Rattle.refusal.specs.Numbers.{number}
use Rattle.refusal.specs.declared.Refusal.{Refusal}
use Rattle.sequence_record.specs.Verdict.{Verdict, verdict_told, judged_told}
use Rattle.sequence_record.specs.declared.Judged.{Judged as CodeJudged}
use Rattle.sequence_record.specs.declared.LossLine.{LossLine}
use Rattle.sequence_record.specs.Receive.{judged, loss_line, verdict_answer}
use Rattle.sequence_table.specs.declared.table.Key.{Key}
use Rattle.sequence_table.specs.Outcome.{Outcome, outcome_told}
use Rattle.sequence_table.specs.Sending.{sending_told}
use Rattle.sequence_table.specs.Counted.{counted_told}
use Rattle.sequence_table.specs.Counted as Counts
use Rattle.sequence_table.specs.Table.{Table, added, removed, next_to_send, loss, outcome_answer, sending_answer, counted_answer}
use Rattle.sequence_plain.specs.Plain.{PlainList, plain_loss}
use Rattle.exports_sequence.specs.Records.{stepped, plain_given, line_words, outcome_given, verdict_given, sending_given}

-- ---- a verdict, and an outcome's number

module _ (verdict : Result ℕ Refusal) (out : List ℕ) where
  pub accepted-given : (rise : ℕ) → verdict ≡ Ok rise → given 1 (verdict_answer (verdict_told verdict)) out ≡ (0, rise ∷ [])
  unfolding given left words verdict_answer
  accepted-given rise is = rw is

  pub refused-given : (refusal : Refusal) → verdict ≡ Err refusal → (n : ℕ) → n ≡ number refusal →
      given 1 (verdict_answer (verdict_told verdict)) out ≡ (n, out)
  unfolding given left verdict_answer
  refused-given refusal is n en = rw (is, en)

module _ (outcome : Result Unit Refusal) where
  pub done-number : (done : Unit) → outcome ≡ Ok done → 0 ≡ (outcome_answer (outcome_told outcome)).number
  unfolding outcome_answer
  done-number done is = rw is

  pub not-done-number : (refusal : Refusal) → outcome ≡ Err refusal → (n : ℕ) → n ≡ number refusal →
      n ≡ (outcome_answer (outcome_told outcome)).number
  unfolding outcome_answer
  not-done-number refusal is n en = rw is en

-- ---- a number and what was lent

module _ (before said : Receive) (same : before ≡ said) where
  pub stepped-is : (number : ℕ) (integrity : Bool) (j : CodeJudged) → judged_told j ≡ judged before number integrity → (out : List ℕ) (r : ℕ) (after : List ℕ) →
      given 1 (verdict_answer (verdict_told j.verdict)) out ≡ (r, after) →
      stepped (judged said number integrity) out ≡ ((r, after), j.receive.highest ∷ j.receive.window ∷ [])
  unfolding stepped
  stepped-is number integrity j is out r after gives = rw (← same, ← is, gives)

  pub line-given : (line : LossLine) → line ≡ loss_line before → (ws : List ℕ) → ws ≡ line_words line → (out : List ℕ) →
      given 3 (counted_answer (Counts.Line (loss_line said))) out ≡ (0, ws)
  unfolding given left words counted_answer
  line-given line is ws are out = rw (are, is, same)

pub plain-given : (said : Answer × PlainList) (verdict : Verdict) (after : PlainList) → said ≡ (verdict_answer verdict, after) → (out : List ℕ) (r : ℕ)
    (given_out : List ℕ) → given 1 (verdict_answer verdict) out ≡ (r, given_out) → plain_given said out ≡ ((r, given_out), after)
unfolding plain_given
plain-given said verdict after is out r given_out gives = rw (is, gives)

pub plain-line-given : (list : PlainList) (line : LossLine) → line ≡ plain_loss list → (ws : List ℕ) → ws ≡ line_words line → (out : List ℕ) →
    given 3 (counted_answer (Counts.Line (plain_loss list))) out ≡ (0, ws)
unfolding given left words counted_answer
plain-line-given list line is ws are out = rw (are, is)

pub packet-given : (said : Verdict × Table) (verdict : Verdict) (after : Table) → said ≡ (verdict, after) → (out : List ℕ) (r : ℕ)
    (given_out : List ℕ) → given 1 (verdict_answer verdict) out ≡ (r, given_out) → verdict_given said out ≡ ((r, given_out), after)
unfolding verdict_given
packet-given said verdict after is out r given_out gives = rw (is, gives)

module _ (t : Table) (key said : Key) (same : key ≡ said) where
  module _ (outcome : Outcome) (after : Table) (r : ℕ) (answers : r ≡ (outcome_answer outcome).number) where
    pub add_given : added t key ≡ (outcome, after) → outcome_given (added t said) ≡ (r, after)
    unfolding outcome_given
    add_given is = rw (← same, is, answers)

    pub remove_given : removed t key ≡ (outcome, after) → outcome_given (removed t said) ≡ (r, after)
    unfolding outcome_given
    remove_given is = rw (← same, is, answers)

  module _ (sending : Result ℕ Refusal) (after : Table) (is : next_to_send t key ≡ (sending_told sending, after)) (out : List ℕ) where
    pub send_number : (next : ℕ) → sending ≡ Ok next → sending_given (next_to_send t said) out ≡ ((0, next ∷ []), after)
    unfolding sending_given given left words sending_answer
    send_number next form = rw (← same, is, form)

    pub send_refused : (refusal : Refusal) → sending ≡ Err refusal → (n : ℕ) → n ≡ number refusal →
        sending_given (next_to_send t said) out ≡ ((n, out), after)
    unfolding sending_given given left sending_answer
    send_refused refusal form n en = rw (← same, is, form, en)

  module _ (counted : Result LossLine Refusal) (is : counted_told counted ≡ loss t key) (out : List ℕ) where
    pub loss-line : (line : LossLine) → counted ≡ Ok line → (ws : List ℕ) → ws ≡ line_words line →
        given 3 (counted_answer (loss t said)) out ≡ (0, ws)
    unfolding given left words counted_answer
    loss-line line form ws are = rw (← same, ← is, form, are)

    pub loss-refused : (refusal : Refusal) → counted ≡ Err refusal → (n : ℕ) → n ≡ number refusal →
        given 3 (counted_answer (loss t said)) out ≡ (n, out)
    unfolding given left counted_answer
    loss-refused refusal form n en = rw (← same, ← is, form, en)
