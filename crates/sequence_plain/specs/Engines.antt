-- The plain window and the window on the same packets, each a number and what the caller says of its integrity.
use Rattle.std.specs.Prelude.{ℕ, List, [], ◌∷◌, Bool}
use Rattle.wire_read.specs.Answer.{Answer}
use Rattle.sequence_record.specs.declared.Receive.{Receive}
use Rattle.sequence_record.specs.declared.LossLine.{LossLine}
use Rattle.sequence_record.specs.Receive.{judged, loss_line, verdict_answer}
use Rattle.sequence_history.specs.History.{accepted_by}
use Rattle.sequence_plain.specs.Plain.{PlainList, plain_step, plain_loss}

-- what an engine tells of a packet: its answer, which has the rise where it is accepted, and the loss line after it
pub record Told : Type 0 where
  pub answer : Answer
  pub line : LossLine

-- the window from a record on
unfoldable pub window_tells : (r : Receive) (numbers : List (Bool × ℕ)) → List Told
window_tells r [] = []
window_tells r (n ∷ numbers) =
    record { answer = verdict_answer (judged r n.1 n.0).verdict; line = loss_line (judged r n.1 n.0).receive }
    ∷ window_tells (judged r n.1 n.0).receive numbers

-- the plain window from a list on
unfoldable pub plain_tells : (list : PlainList) (numbers : List (Bool × ℕ)) → List Told
plain_tells list [] = []
plain_tells list (n ∷ numbers) =
    record { answer = (plain_step list n.1 n.0).0; line = plain_loss (plain_step list n.1 n.0).1 }
    ∷ plain_tells (plain_step list n.1 n.0).1 numbers

-- ---- the plain window by itself, as the history speaks of a lent record

unfoldable pub plain_answers : (list : PlainList) (numbers : List (Bool × ℕ)) → List Answer
plain_answers list [] = []
plain_answers list (n ∷ numbers) = (plain_step list n.1 n.0).0 ∷ plain_answers (plain_step list n.1 n.0).1 numbers

-- the list after them
unfoldable pub plain_after : (list : PlainList) (numbers : List (Bool × ℕ)) → PlainList
plain_after list [] = list
plain_after list (n ∷ numbers) = plain_after (plain_step list n.1 n.0).1 numbers

-- the accepted numbers, the last first: known by the answers alone
abbrev pub plain_accepted : (list : PlainList) (numbers : List (Bool × ℕ)) → List ℕ
plain_accepted list numbers = accepted_by (plain_answers list numbers) numbers []
