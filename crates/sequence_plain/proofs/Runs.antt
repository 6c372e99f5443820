-- Runs: a list that has the accepted numbers answers by them and has them afterwards, so that it tells what a record tells that shows them, as long
-- as the record accepts no more than the list has room for.
use Prim.Native.Nat.{ℕ, ◌+◌, ◌≤◌, ◌<◌, min}
use mathlib.Core.Path.{◌≡◌, refl, sym, ap, subst, ◌∙◌}
use mathlib.Core.Bool.{Bool, true, ◌&&◌}
use mathlib.Core.List.{List, [], ◌∷◌, map}
use native.Mathlib.Omega.{arith}
use lib.ListN.{length}
use lib.Dec.{leb}
use Rattle.wire_read.specs.Tests.{if◌then◌otherwise◌}
use Rattle.wire_read.specs.Answer.{Answer, refused}
use Rattle.wire_read.proofs.Tests.{by_test}
use Rattle.sequence_record.specs.declared.Receive.{Receive}
use Rattle.sequence_record.specs.declared.LossLine.{LossLine}
use Rattle.sequence_record.specs.Receive.{new_receive, judged, verdict_answer}
use Rattle.sequence_history.specs.History.{is_done, highest, recent, rise_given, total, right_number, Distinct, lent_answers, lent_after, lent_accepted, accepted_then, accepted_by, rises_by}
use Rattle.sequence_history.proofs.Record.{Shows, one-step, accepts_new, starts, line-right, lent-right}
use Rattle.sequence_history.proofs.Rises.{rise_by, right-rise}
use Rattle.sequence_plain.specs.Plain.{PlainList, most, count_of, first_numbers, numbers_of, right_plain, plain_step, plain_loss}
use Rattle.sequence_plain.specs.Engines.{Told, window_tells, plain_tells, plain_answers, plain_after, plain_accepted}
use Rattle.sequence_plain.proofs.ListLaws.{numbers_length, next_length, next-numbers}
use Rattle.sequence_plain.proofs.RuleLaws.{room-same, refused-same, accepts-room, accepts-right}

-- the list has the accepted numbers h
pub record Has (list : PlainList) (h : List ℕ) : Type 0 where
  pub long : length list ≡ most + 1
  pub numbers : numbers_of list ≡ h

pub begins : (list : PlainList) → length list ≡ most + 1 → count_of list ≡ 0 → Has list []
unfolding first_numbers
begins list long none = record { long = long; numbers = ap (first_numbers list) none }

-- ---- one step

module _ (list : PlainList) (h : List ℕ) (has : Has list h) (n : ℕ) (integrity : Bool) where
  pub step-answer : (plain_step list n integrity).0 ≡ right_plain h n integrity
  unfolding plain_step
  step-answer = ap (λ (l : List ℕ). right_plain l n integrity) has.numbers

  pub step-has : Has (plain_step list n integrity).1 (accepted_then (right_plain h n integrity) n h)
  unfolding plain_step
  step-has =
      let room : is_done (right_plain h n integrity) ≡ true → count_of list < most =
      λ d. omega (arith, accepts-room h n integrity d, numbers_length list, ap length has.numbers) in
      rw has.numbers
      (by_test (is_done (right_plain h n integrity))
      (λ d.
      rw d
      (record {
        long = next_length list has.long n;
        numbers = next-numbers list has.long n (room d) ∙ ap (λ (l : List ℕ). n ∷ l) has.numbers;
      }))
      (λ d. rw d has))

  pub step_distinct : Distinct h → Distinct (accepted_then (right_plain h n integrity) n h)
  step_distinct distinct =
      by_test (is_done (right_plain h n integrity))
      (λ d. rw d (accepts_new h n integrity (sym (ap is_done (accepts-right h n integrity d)) ∙ d), distinct))
      (λ d. rw d distinct)

  pub step-most : length h ≤ most → length (accepted_then (right_plain h n integrity) n h) ≤ most
  step-most within =
      by_test (is_done (right_plain h n integrity))
      (λ d. rw d (omega (arith, accepts-room h n integrity d)))
      (λ d. rw d within)

  -- the rise is by so much as the highest number is higher
  step-rises : is_done (right_plain h n integrity) ≡ true → rise_given (right_plain h n integrity) + highest h ≡ highest (n ∷ h)
  step-rises d =
      let is = accepts-right h n integrity d in
      let rise : rise_given (right_plain h n integrity) ≡ rise_by h n =
      ap rise_given (is ∙ right-rise h n integrity (sym (ap is_done is) ∙ d)) in
      omega (arith, rise)

pub line_of : (list : PlainList) (h : List ℕ) → Has list h → plain_loss list ≡ record { highest = highest h; span = min (highest h) 64; count = recent h }
unfolding plain_loss
line_of list h has = rw has.numbers

-- ---- runs from a list on

run-has : (numbers : List (Bool × ℕ)) (list : PlainList) (h : List ℕ) → Has list h → Distinct h → length h ≤ most
    → Has (plain_after list numbers) (accepted_by (plain_answers list numbers) numbers h)
    × Distinct (accepted_by (plain_answers list numbers) numbers h)
    × (length (accepted_by (plain_answers list numbers) numbers h) ≤ most)
unfolding plain_answers plain_after accepted_by
run-has [] list h has distinct within = (has, distinct, within)
run-has ((integrity, n) ∷ numbers) list h has distinct within =
    rw (step-answer list h has n integrity)
    (run-has numbers (plain_step list n integrity).1 (accepted_then (right_plain h n integrity) n h) (step-has list h has n integrity)
    (step_distinct list h has n integrity distinct) (step-most list h has n integrity within))

run-total : (numbers : List (Bool × ℕ)) (list : PlainList) (h : List ℕ) → Has list h →
    total (rises_by (plain_answers list numbers)) + highest h ≡ highest (accepted_by (plain_answers list numbers) numbers h)
unfolding plain_answers accepted_by rises_by
run-total [] list h has = omega arith
run-total ((integrity, n) ∷ numbers) list h has =
    let on = run-total numbers (plain_step list n integrity).1 (accepted_then (right_plain h n integrity) n h) (step-has list h has n integrity) in
    rw (step-answer list h has n integrity)
    (by_test (is_done (right_plain h n integrity))
    (λ d. rw d (omega (arith, step-rises list h has n integrity d, rw d at on)))
    (λ d. rw d (rw d at on)))

-- ---- beside the window

-- what was accepted stays accepted
accepted-more : (answers : List Answer) (numbers : List (Bool × ℕ)) (before : List ℕ) → length before ≤ length (accepted_by answers numbers before)
unfolding accepted_by
accepted-more [] numbers before = omega arith
accepted-more (a ∷ answers) [] before = omega arith
accepted-more (a ∷ answers) (n ∷ numbers) before =
    let next : length (accepted_then a n.1 before) ≤ length (accepted_by (a ∷ answers) (n ∷ numbers) before) =
    accepted-more answers numbers (accepted_then a n.1 before) in
    let grows : length before ≤ length (accepted_then a n.1 before) = by_test (is_done a) (λ d. rw d (omega arith)) (λ d. rw d (omega arith)) in
    omega (arith, next, grows)

same-told : (a b : Answer) (k l : LossLine) (more others : List Told) → a ≡ b → k ≡ l → more ≡ others →
    ◌≡◌ {A = List Told} (record { answer = a; line = k } ∷ more) (record { answer = b; line = l } ∷ others)
same-told a b k l more others ea ek em = rw (ea, ek, em)

pub tells_same : (numbers : List (Bool × ℕ)) (r : Receive) (list : PlainList) (h : List ℕ) → Shows r h → Has list h →
    length (accepted_by (lent_answers r numbers) numbers h) ≤ most → plain_tells list numbers ≡ window_tells r numbers
unfolding lent_answers accepted_by window_tells plain_tells
tells_same [] r list h shows has within = refl
tells_same ((integrity, n) ∷ numbers) r list h shows has within =
    let judging = one-step r h shows n integrity in
    let kept : length (accepted_by (lent_answers (judged r n integrity).receive numbers) numbers (accepted_then (right_number h n integrity) n h)) ≤ most =
    rw judging.0 at within in
    let more = accepted-more (lent_answers (judged r n integrity).receive numbers) numbers (accepted_then (right_number h n integrity) n h) in
    let same : right_plain h n integrity ≡ right_number h n integrity =
    by_test (is_done (right_number h n integrity))
    (λ d. room-same h n integrity (omega (arith, rw d at more, rw d at kept)))
    (λ d. refused-same h n integrity d) in
    let has-then : Has (plain_step list n integrity).1 (accepted_then (right_number h n integrity) n h) =
    subst (λ (a : Answer). Has (plain_step list n integrity).1 (accepted_then a n h)) same (step-has list h has n integrity) in
    same-told _ _ _ _ _ _ (step-answer list h has n integrity ∙ same ∙ sym judging.0)
    (line_of _ _ has-then ∙ sym (line-right (judged r n integrity).receive (accepted_then (right_number h n integrity) n h) judging.1))
    (tells_same numbers (judged r n integrity).receive (plain_step list n integrity).1 (accepted_then (right_number h n integrity) n h) judging.1 has-then kept)

-- the answers among what is told
window_answers : (numbers : List (Bool × ℕ)) (r : Receive) → map (λ (t : Told). t.answer) (window_tells r numbers) ≡ lent_answers r numbers
unfolding window_tells lent_answers
window_answers [] r = refl
window_answers (n ∷ numbers) r = rw (window_answers numbers (judged r n.1 n.0).receive)

plain-answers : (numbers : List (Bool × ℕ)) (list : PlainList) → map (λ (t : Told). t.answer) (plain_tells list numbers) ≡ plain_answers list numbers
unfolding plain_tells plain_answers
plain-answers [] list = refl
plain-answers (n ∷ numbers) list = rw (plain-answers numbers (plain_step list n.1 n.0).1)

-- ---- from an empty list on

module _ (list : PlainList) (long : length list ≡ most + 1) (none : count_of list ≡ 0) (numbers : List (Bool × ℕ)) where
  pub engines_equal : length (lent_accepted numbers) ≤ most → plain_tells list numbers ≡ window_tells new_receive numbers
  engines_equal = tells_same numbers new_receive list [] starts (begins list long none)

  abbrev run : Has (plain_after list numbers) (plain_accepted list numbers) × Distinct (plain_accepted list numbers) × (length (plain_accepted list numbers) ≤ most)
  run = run-has numbers list [] (begins list long none) tt (omega arith)

  pub plain_keeps : numbers_of (plain_after list numbers) ≡ plain_accepted list numbers
  plain_keeps = run.0.numbers

  -- the next answer is right of the numbers accepted before
  pub plain-right : (number : ℕ) (integrity : Bool) →
      (plain_step (plain_after list numbers) number integrity).0 ≡ right_plain (plain_accepted list numbers) number integrity
  plain-right = step-answer (plain_after list numbers) (plain_accepted list numbers) run.0

  -- up to the window's 4,096th acceptance both have accepted the same numbers, so the next answers differ at most by 8202
  pub engines_part : length (lent_accepted numbers) ≤ most → (number : ℕ) (integrity : Bool) →
      let window : Answer = verdict_answer (judged (lent_after new_receive numbers) number integrity).verdict in
      (plain_step (plain_after list numbers) number integrity).0
      ≡ (if is_done window && leb most (length (lent_accepted numbers)) then refused 8202 otherwise window)
  unfolding right_plain
  engines_part within number integrity =
      let answers : plain_answers list numbers ≡ lent_answers new_receive numbers =
      sym (plain-answers numbers list) ∙ ap (map (λ (t : Told). t.answer)) (engines_equal within) ∙ window_answers numbers new_receive in
      let same : plain_accepted list numbers ≡ lent_accepted numbers = ap (λ (l : List Answer). accepted_by l numbers []) answers in
      plain-right number integrity ∙ rw (same, lent-right numbers number integrity)

  pub plain_once : Distinct (plain_accepted list numbers)
  plain_once = run.1

  pub plain-most : length (plain_accepted list numbers) ≤ most
  plain-most = run.2

  pub plain-loss : plain_loss (plain_after list numbers)
      ≡ record { highest = highest (plain_accepted list numbers); span = min (highest (plain_accepted list numbers)) 64; count = recent (plain_accepted list numbers) }
  plain-loss = line_of (plain_after list numbers) (plain_accepted list numbers) run.0

  pub plain_add_up : total (rises_by (plain_answers list numbers)) ≡ highest (plain_accepted list numbers)
  plain_add_up = omega (arith, run-total numbers list [] (begins list long none))
