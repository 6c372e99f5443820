-- A plain window to compare with, in the words of document 02, "Five". The rule stands in crates/sequence_plain/specs/Plain.antt, both engines on the
-- same packets in Engines.antt beside it; proofs in crates/sequence_plain.
use Rattle.std.specs.Prelude.{ℕ, ◌≤◌, min, ◌≡◌, Bool, true, false, ◌&&◌, List, [], length, leb}
use Rattle.wire_read.specs.Tests.{if◌then◌otherwise◌}
use Rattle.wire_read.specs.Answer.{Answer, refused}
use Rattle.sequence_record.specs.declared.Receive.{Receive}
use Rattle.sequence_record.specs.Receive.{new_receive, judged, verdict_answer}
use Rattle.sequence_history.specs.History.{is_done, highest, recent, total, right_number, Distinct, lent_after, lent_accepted, rises_by}
use Rattle.sequence_plain.specs.Plain.{PlainList, count_of, numbers_of, right_plain, plain_step, plain_loss}
use Rattle.sequence_plain.specs.Engines.{window_tells, plain_tells, plain_answers, plain_after, plain_accepted}
use Rattle.sequence_plain.proofs.RuleLaws as Rule
use Rattle.sequence_plain.proofs.Runs as Runs

-- ---- for every sequence of packets, from any list without a number on

module _ (list : PlainList) (long : length list ≡ 4097) (none : count_of list ≡ 0) (numbers : List (Bool × ℕ)) where
  -- "Up to that many acceptances both engines give equal verdicts and loss lines for every packet sequence.": where the window accepts at most 4,096
  -- of them, both tell the same of each packet: the verdict, the rise and the loss line after it.
  pub engines_equal : length (lent_accepted numbers) ≤ 4096 → plain_tells list numbers ≡ window_tells new_receive numbers
  engines_equal = Runs.engines_equal list long none numbers

  -- .. and what the next packet is answered differs at most where the window accepts its 4,097th: there the first 8202 is. Then the record has a number
  -- that the list does not have, and the two histories part.
  pub engines_part : length (lent_accepted numbers) ≤ 4096 → (number : ℕ) (integrity : Bool) →
      let window : Answer = verdict_answer (judged (lent_after new_receive numbers) number integrity).verdict in
      (plain_step (plain_after list numbers) number integrity).0
      ≡ (if is_done window && leb 4096 (length (lent_accepted numbers)) then refused 8202 otherwise window)
  engines_part = Runs.engines_part list long none numbers

  -- "it keeps the accepted numbers of one life as a plain list of up to 4,096": however many are shown
  pub plain_keeps : numbers_of (plain_after list numbers) ≡ plain_accepted list numbers
  plain_keeps = Runs.plain_keeps list long none numbers

  pub plain-most : length (plain_accepted list numbers) ≤ 4096
  plain-most = Runs.plain-most list long none numbers

  -- The next answer is the one worked out afresh from the numbers that the answers before it accepted; none is accepted twice; the rises add up to
  -- H; and the loss line gives H, the lesser of H and 64, and how many of those last numbers were accepted.
  pub plain-right : (number : ℕ) (integrity : Bool) →
      (plain_step (plain_after list numbers) number integrity).0 ≡ right_plain (plain_accepted list numbers) number integrity
  plain-right = Runs.plain-right list long none numbers

  pub plain_once : Distinct (plain_accepted list numbers)
  plain_once = Runs.plain_once list long none numbers

  pub plain_add_up : total (rises_by (plain_answers list numbers)) ≡ highest (plain_accepted list numbers)
  plain_add_up = Runs.plain_add_up list long none numbers

  pub plain-loss : plain_loss (plain_after list numbers)
      ≡ record { highest = highest (plain_accepted list numbers); span = min (highest (plain_accepted list numbers)) 64; count = recent (plain_accepted list numbers) }
  plain-loss = Runs.plain-loss list long none numbers

-- ---- "a packet that would be the 4,097th acceptance is 8202 in this engine only, after all others": whatever words the list has

module _ (list : PlainList) (number : ℕ) (integrity : Bool) where
  -- the list is full, and the rule over its own numbers would accept
  abbrev Overflows : Type 0
  Overflows = (count_of list ≡ 4096) × (is_done (right_number (numbers_of list) number integrity) ≡ true)

  -- 8202 is answered exactly there ..
  pub full-refused : Overflows → (plain_step list number integrity).0 ≡ refused 8202
  full-refused = Rule.full-refused list number integrity

  pub only_full-refused : (plain_step list number integrity).0 ≡ refused 8202 → Overflows
  only_full-refused = Rule.only_full-refused list number integrity

  -- .. and nothing else differs
  pub else_right : (Overflows → ⊥) → (plain_step list number integrity).0 ≡ right_number (numbers_of list) number integrity
  else_right = Rule.else_right list number integrity

  -- a refusal, 8202 too, carries nothing and changes nothing
  pub plain-refused-nothing : is_done (plain_step list number integrity).0 ≡ false →
      ((plain_step list number integrity).0.values ≡ []) × ((plain_step list number integrity).1 ≡ list)
  plain-refused-nothing = Rule.refused-nothing list number integrity

-- "in this engine only": the window never answers it, whatever its record is
pub window_never : (r : Receive) (number : ℕ) (integrity : Bool) → verdict_answer (judged r number integrity).verdict ≡ refused 8202 → ⊥
window_never = Rule.window_never
