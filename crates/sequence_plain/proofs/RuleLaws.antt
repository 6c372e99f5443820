-- The rule over a list of numbers: it is the history's but where a full list would accept.
use Prim.Native.Nat.{ℕ, ◌-◌, ◌≤◌, ◌<◌}
use mathlib.Core.Path.{◌≡◌, refl, sym, ap, ◌∙◌}
use mathlib.Core.Bool.{Bool, true, false, not, and-false}
use mathlib.Core.List.{List, [], ◌∷◌}
use native.Mathlib.Omega.{arith}
use lib.ListN.{length}
use lib.Dec.{leb}
use borrow.Author.Tests.{le-leb, lt-leb, leb-false, leb-true}
use Rattle.wire_read.specs.Tests.{if◌then◌otherwise◌}
use Rattle.wire_read.specs.Answer.{Answer, done, refused}
use Rattle.wire_read.proofs.Tests.{clash, by_test}
use Rattle.sequence_record.specs.declared.Receive.{Receive}
use Rattle.sequence_record.specs.Receive.{behind, accepted_before, rise, judged, verdict_answer}
use Rattle.sequence_history.specs.History.{is_done, highest, member, right_number}
use Rattle.sequence_plain.specs.Plain.{PlainList, most, count_of, numbers_of, right_plain, plain_step}
use Rattle.sequence_plain.proofs.ListLaws.{numbers_length}

-- ---- document 01's rule

-- an answer of document 01's four cases is not 8202, and where it is a refusal it carries nothing
abbrev four : (old again integrity : Bool) (x : ℕ) → Answer
four old again integrity x =
    if old then refused 8197 otherwise if again then refused 8194 otherwise if not integrity then refused 24 otherwise done (x ∷ [])

never_full : (old again integrity : Bool) (x : ℕ) → four old again integrity x ≡ refused 8202 → ⊥
never_full true again integrity x h = let e : ◌≡◌ {A = ℕ} 8197 8202 = ap (λ (a : Answer). a.number) h in omega arith
never_full false true integrity x h = let e : ◌≡◌ {A = ℕ} 8194 8202 = ap (λ (a : Answer). a.number) h in omega arith
never_full false false true x h = let e : ◌≡◌ {A = ℕ} 0 8202 = ap (λ (a : Answer). a.number) h in omega arith
never_full false false false x h = let e : ◌≡◌ {A = ℕ} 24 8202 = ap (λ (a : Answer). a.number) h in omega arith

four_empty : (old again integrity : Bool) (x : ℕ) → is_done (four old again integrity x) ≡ false → (four old again integrity x).values ≡ []
four_empty true again integrity x h = refl
four_empty false true integrity x h = refl
four_empty false false true x h = clash (sym h)
four_empty false false false x h = refl

right_never : (numbers : List ℕ) (number : ℕ) (integrity : Bool) → right_number numbers number integrity ≡ refused 8202 → ⊥
unfolding right_number
right_never numbers number integrity =
    never_full (behind (highest numbers) number) (member number numbers) integrity (highest (number ∷ numbers) - highest numbers)

pub window_never : (r : Receive) (number : ℕ) (integrity : Bool) → verdict_answer (judged r number integrity).verdict ≡ refused 8202 → ⊥
unfolding judged verdict_answer
window_never r number integrity h =
    by_test (behind r.highest number)
    (λ b. never_full true false integrity 0 (rw b at h))
    (λ b.
    by_test (accepted_before r number)
    (λ again. never_full false true integrity 0 (rw (b, again) at h))
    (λ again.
    by_test integrity
    (λ w. never_full false false true (rise r number) (rw (b, again, w) at h))
    (λ w. never_full false false false 0 (rw (b, again, w) at h))))

right-empty : (numbers : List ℕ) (number : ℕ) (integrity : Bool) → is_done (right_number numbers number integrity) ≡ false →
    (right_number numbers number integrity).values ≡ []
unfolding right_number
right-empty numbers number integrity =
    four_empty (behind (highest numbers) number) (member number numbers) integrity (highest (number ∷ numbers) - highest numbers)

-- ---- the rule of the plain window over a list of numbers

module _ (numbers : List ℕ) (number : ℕ) (integrity : Bool) where
  abbrev right : Answer
  right = right_number numbers number integrity

  abbrev plain : Answer
  plain = right_plain numbers number integrity

  -- "up to that many acceptances": with room left
  pub room-same : length numbers < most → plain ≡ right
  unfolding right_plain
  room-same room = simp (lt-leb most (length numbers) room, and-false)

  pub refused-same : is_done right ≡ false → plain ≡ right
  unfolding right_plain
  refused-same d = rw d

  pub full-plain : most ≤ length numbers → plain ≡ (if is_done right then refused 8202 otherwise right)
  unfolding right_plain
  full-plain full = by_test (is_done right) (λ d. rw (d, le-leb most (length numbers) full)) (λ d. rw d)

  -- what is accepted found room, and is the history's
  pub accepts-room : is_done plain ≡ true → length numbers < most
  unfolding right_plain
  accepts-room h =
      by_test (leb most (length numbers))
      (λ full. by_test (is_done right) (λ d. clash (rw (d, full) at h)) (λ d. clash (sym d ∙ (rw d at h))))
      (λ room. leb-false most (length numbers) room)

  pub accepts-right : is_done plain ≡ true → plain ≡ right
  accepts-right h = room-same (accepts-room h)

  -- a refusal carries nothing
  pub plain-empty : is_done plain ≡ false → plain.values ≡ []
  unfolding right_plain
  plain-empty h =
      by_test (is_done right)
      (λ d.
      by_test (leb most (length numbers))
      (λ full. rw (d, full))
      (λ room. clash (sym h ∙ ap is_done (room-same (leb-false most (length numbers) room)) ∙ d)))
      (λ d. ap (λ (a : Answer). a.values) (refused-same d) ∙ right-empty numbers number integrity d)

-- ---- the rule over the numbers of a list, whatever words it has

module _ (list : PlainList) (number : ℕ) (integrity : Bool) where
  abbrev right_of : Answer
  right_of = right_number (numbers_of list) number integrity

  pub full-refused : (count_of list ≡ most) × (is_done right_of ≡ true) → (plain_step list number integrity).0 ≡ refused 8202
  unfolding plain_step
  full-refused over = full-plain (numbers_of list) number integrity (omega (arith, numbers_length list, over.0)) ∙ rw over.1

  pub only_full-refused : (plain_step list number integrity).0 ≡ refused 8202 → (count_of list ≡ most) × (is_done right_of ≡ true)
  unfolding plain_step
  only_full-refused h =
      by_test (is_done right_of)
      (λ d.
      by_test (leb most (length (numbers_of list)))
      (λ full. (omega (arith, numbers_length list, leb-true most (length (numbers_of list)) full), d))
      (λ room.
      absurd
      (right_never (numbers_of list) number integrity
      (sym (room-same (numbers_of list) number integrity (leb-false most (length (numbers_of list)) room)) ∙ h))))
      (λ d. absurd (right_never (numbers_of list) number integrity (sym (refused-same (numbers_of list) number integrity d) ∙ h)))

  pub else_right : ((count_of list ≡ most) × (is_done right_of ≡ true) → ⊥) → (plain_step list number integrity).0 ≡ right_of
  unfolding plain_step
  else_right not-over =
      by_test (is_done right_of)
      (λ d.
      by_test (leb most (length (numbers_of list)))
      (λ full. absurd (not-over (omega (arith, numbers_length list, leb-true most (length (numbers_of list)) full), d)))
      (λ room. room-same (numbers_of list) number integrity (leb-false most (length (numbers_of list)) room)))
      (λ d. refused-same (numbers_of list) number integrity d)

  pub refused-nothing : is_done (plain_step list number integrity).0 ≡ false →
      ((plain_step list number integrity).0.values ≡ []) × ((plain_step list number integrity).1 ≡ list)
  unfolding plain_step
  refused-nothing h = (plain-empty (numbers_of list) number integrity h, rw h)
