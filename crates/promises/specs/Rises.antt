-- How far the window moved, in the words of document 02, "Four". The rule stands in crates/sequence_record/specs/Receive.antt, what is right by the
-- history in crates/sequence_history/specs/History.antt; proofs in crates/sequence_history.
use Rattle.std.specs.Prelude.{ℕ, ◌+◌, ◌-◌, ◌*◌, ◌≤◌, ◌≡◌, refl, Bool, true, false, not, ◌||◌, List, [], ◌∷◌, length, eqb, leb}
use Rattle.std.proofs.Common.{sym, ap, ◌∙◌, arith}
use Rattle.wire_read.specs.Tests.{if◌then◌otherwise◌}
use Rattle.wire_read.specs.Answer.{done}
use Rattle.wire_read.proofs.Tests.{clash, by_test}
use Rattle.sequence_record.specs.declared.Receive.{Receive}
use Rattle.sequence_record.specs.Verdict.{Verdict, Accepted, Refused}
use Rattle.sequence_record.specs.Receive.{new_receive, judged, verdict_answer}
use Rattle.sequence_table.specs.declared.table.Key.{Key}
use Rattle.sequence_table.specs.Table.{Table, rooms, words, empty}
use Rattle.sequence_history.specs.History.{Call, adds, is_done, accepted, highest, member, rises, total, right_number, answered, answered_all, RisesFor, lent_answers, lent_after, lent_accepted, rises_by}
use Rattle.sequence_history.proofs.Rises as Laws

-- "An accepted packet's verdict shall also carry by how much the highest number rose": for every sequence of calls from an empty table, each packet
-- of a key that was accepted was answered with the highest accepted number of its life after it less that before it.
pub rise-carried : (calls : List Call) (key : Key) → RisesFor key (answered_all empty [] calls)
rise-carried = Laws.rises-right

-- "0 if it didn't"
pub late_zero : (numbers : List ℕ) (number : ℕ) (integrity : Bool) → number ≤ highest numbers → is_done (right_number numbers number integrity) ≡ true →
    right_number numbers number integrity ≡ done (0 ∷ [])
late_zero numbers number integrity late h =
    let none : highest (number ∷ numbers) - highest numbers ≡ 0 = omega arith in
    Laws.right-rise numbers number integrity h ∙ ap (λ (rise : ℕ). done (rise ∷ [])) none

-- The rises of a life add up to H.
pub rises_add_up : (calls : List Call) (key : Key) → total (rises key (answered_all empty [] calls)) ≡ highest (accepted key (answered_all empty [] calls))
rises_add_up = Laws.rises_add_up

-- The same from any words of the table, after an adding that is done, whatever calls of that key and of others follow.
module _ (t : Table) (key : Key) (long : length t ≡ rooms * words) (adding : (answered t (adds key)).0 ≡ done (1 ∷ [])) (calls : List Call) where
  pub any_words-rises : RisesFor key (answered_all t [] (adds key ∷ calls))
  any_words-rises = Laws.any_words-rises t key long adding calls

  pub any_words_add_up : total (rises key (answered_all t [] (adds key ∷ calls))) ≡ highest (accepted key (answered_all t [] (adds key ∷ calls)))
  any_words_add_up = Laws.any_words_add_up t key long adding calls

-- "Everything built on the verdict passes it on: the table, the lent record, the capture listing." The table is above. `lent_same` (Sequence.antt) says
-- that the lent record answers as the table does, `listing_verdicts` and `capture_right` (Captures.antt) that the listed verdicts are the
-- table's, values and all.
pub lent-rise : (numbers : List (Bool × ℕ)) (number : ℕ) (integrity : Bool) →
    is_done (verdict_answer (judged (lent_after new_receive numbers) number integrity).verdict) ≡ true →
    verdict_answer (judged (lent_after new_receive numbers) number integrity).verdict
    ≡ done ((highest (number ∷ lent_accepted numbers) - highest (lent_accepted numbers)) ∷ [])
lent-rise = Laws.lent-rise

pub lent_add_up : (numbers : List (Bool × ℕ)) → total (rises_by (lent_answers new_receive numbers)) ≡ highest (lent_accepted numbers)
lent_add_up = Laws.lent_add_up

-- .. and from any record on, whatever its words are.
pub lent_total : (numbers : List (Bool × ℕ)) (r : Receive) → total (rises_by (lent_answers r numbers)) + r.highest ≡ (lent_after r numbers).highest
lent_total = Laws.lent_total

-- "Refused packets carry nothing."
pub refused_carries_nothing : (verdict : Verdict) → is_done (verdict_answer verdict) ≡ false → (verdict_answer verdict).values ≡ []
unfolding verdict_answer
refused_carries_nothing (Accepted rise) h = clash (sym h)
refused_carries_nothing (Refused number) h = refl

-- "No case changes its verdict.": the number of each is the one that document 01's four cases have.
pub no_case_changes : (numbers : List ℕ) (number : ℕ) (integrity : Bool) →
    (right_number numbers number integrity).number
    ≡ (if eqb number 0 || leb (number + 64) (highest numbers) then 8197 otherwise if member number numbers then 8194 otherwise if not integrity then 24 otherwise 0)
unfolding right_number
no_case_changes numbers number integrity =
    by_test (eqb number 0 || leb (number + 64) (highest numbers)) (λ b. rw b)
    (λ b. by_test (member number numbers) (λ m. rw (b, m)) (λ m. by_test integrity (λ w. rw (b, m, w)) (λ w. rw (b, m, w))))
