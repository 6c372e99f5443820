-- A law for each way out of this crate's functions: what the definitions say under the tests that the code makes.
use Prim.Native.Nat.{ℕ, suc, ◌+◌, ◌-◌, ◌≤◌, ◌<◌, min, max}
use mathlib.Core.Path.{◌≡◌, sym, ap, ap₂, ◌∙◌}
use mathlib.Core.Bool.{Bool, true, false, not, ◌||◌}
use mathlib.Core.List.{List, ◌∷◌}
use native.Mathlib.Omega.{arith}
use lib.ListN.{length, get_or, set, take, drop}
use Rattle.std.proofs.lemmas.List.{get_or-take, get_or-drop, length-drop, length-take}
use lib.Dec.{eqb}
use Rattle.wire_read.proofs.Tests.{by_test}
use Rattle.std.proofs.Math.Bool.{or_comm}
use borrow.Author.Tests.{eq-eqb, ne_eqb, eqb-true, eqb-false, le-leb, lt-leb}
use Rattle.sequence_record.specs.Receive.{behind, verdict_answer}
use Rattle.sequence_record.specs.Verdict.{Accepted, Refused}
use Rattle.sequence_record.specs.declared.LossLine.{LossLine}
use Rattle.sequence_history.specs.History.{highest, member, one, sum, right_number}
use Rattle.sequence_plain.specs.Plain.{PlainList, most, count_of, first_numbers, numbers_of, with_next, right_plain, plain_step, plain_loss}
use Rattle.sequence_plain.proofs.ListLaws.{numbers_length}

-- ---- looking through the list

eqb_sym : (a b : ℕ) → eqb a b ≡ eqb b a
eqb_sym a b = by_test (eqb a b) (λ e. e ∙ sym (eq-eqb b a (sym (eqb-true a b e)))) (λ e. e ∙ sym (ne_eqb b a (λ q. eqb-false a b e (sym q))))

module _ (list : PlainList) where
  -- one number more is seen
  first_next : (seen : ℕ) → first_numbers list (seen + 1) ≡ get_or list (seen + 1) 0 ∷ first_numbers list seen
  unfolding first_numbers
  first_next seen = let e : seen + 1 ≡ suc seen = omega arith in rw e

  seen_number : (count seen : ℕ) → seen < count → get_or (take count (drop 1 list)) seen 0 ≡ get_or list (seen + 1) 0
  seen_number count seen l =
      let e : 1 + seen ≡ seen + 1 = omega arith in
      get_or-take count (drop 1 list) seen 0 l ∙ get_or-drop 1 list seen 0 ∙ ap (λ (k : ℕ). get_or list k 0) e

  module _ (numbers : List ℕ) (are : numbers ≡ take (count_of list) (drop 1 list)) where
    pub next_highest : (seen x : ℕ) → x ≡ highest (first_numbers list seen) → seen < length numbers →
        (y : ℕ) → y ≡ max x (get_or numbers seen 0) → y ≡ highest (first_numbers list (seen + 1))
    next_highest seen x so_far l y is =
        let within : seen < count_of list = omega (arith, ap length are, length-take (count_of list) (drop 1 list)) in
        let last = ap (λ (s : List ℕ). get_or s seen 0) are ∙ seen_number (count_of list) seen within in
        is ∙ rw (first_next seen, ← so_far, last) (omega arith)

    pub next_found : (number seen : ℕ) (found : Bool) → found ≡ member number (first_numbers list seen) → seen < length numbers →
        (y : Bool) → y ≡ (found || eqb (get_or numbers seen 0) number) → y ≡ member number (first_numbers list (seen + 1))
    next_found number seen found so_far l y is =
        let within : seen < count_of list = omega (arith, ap length are, length-take (count_of list) (drop 1 list)) in
        let last = ap (λ (s : List ℕ). get_or s seen 0) are ∙ seen_number (count_of list) seen within in
        let same = ap (λ (x : ℕ). eqb x number) last ∙ eqb_sym (get_or list (seen + 1) 0) number in
        is ∙ ap₂ (λ (a b : Bool). a || b) so_far same
        ∙ or_comm (member number (first_numbers list seen)) (eqb number (get_or list (seen + 1) 0))
        ∙ ap (member number) (sym (first_next seen))

    module _ (long : length list ≡ most + 1) where
      numbers-count : length numbers ≡ count_of list
      numbers-count = omega (arith, long, ap length are, length-take (count_of list) (drop 1 list), length-drop 1 list)

      pub all_seen : (seen x : ℕ) → x ≡ highest (first_numbers list seen) → seen ≤ length numbers → length numbers ≤ seen →
          x ≡ highest (numbers_of list)
      all_seen seen x so_far l g = let e : seen ≡ count_of list = omega (arith, numbers-count) in rw (← e) so_far

      pub all_searched : (number seen : ℕ) (found : Bool) → found ≡ member number (first_numbers list seen) → seen ≤ length numbers →
          length numbers ≤ seen → found ≡ member number (numbers_of list)
      all_searched number seen found so_far l g = let e : seen ≡ count_of list = omega (arith, numbers-count) in rw (← e) so_far

-- ---- a step

module _ (list : PlainList) (number : ℕ) (integrity : Bool) (top : ℕ) (tops : top ≡ highest (numbers_of list)) (b : Bool)
    (eb : b ≡ behind top number) where
  pub step-behind : b ≡ true → plain_step list number integrity ≡ (verdict_answer (Refused 8197), list)
  unfolding plain_step right_plain right_number verdict_answer
  step-behind h = rw (← tops, ← eb, h)

  module _ (near : b ≡ false) (again : Bool) (ea : again ≡ member number (numbers_of list)) where
    pub step_again : again ≡ true → plain_step list number integrity ≡ (verdict_answer (Refused 8194), list)
    unfolding plain_step right_plain right_number verdict_answer
    step_again h = rw (← tops, ← eb, near, ← ea, h)

    module _ (new : again ≡ false) where
      pub step_damaged : not integrity ≡ true → plain_step list number integrity ≡ (verdict_answer (Refused 24), list)
      unfolding plain_step right_plain right_number verdict_answer
      step_damaged h = rw (← tops, ← eb, near, ← ea, new, h)

      module _ (whole : not integrity ≡ false) (count : ℕ) (ec : count ≡ count_of list) where
        pub step-full : most ≤ count → plain_step list number integrity ≡ (verdict_answer (Refused 8202), list)
        unfolding plain_step right_plain right_number verdict_answer
        step-full h = rw (← tops, ← eb, near, ← ea, new, whole, numbers_length list, ← ec, le-leb most count h)

        pub step-done : count < most → (rise : ℕ) → rise ≡ number - top →
            plain_step list number integrity ≡ (verdict_answer (Accepted rise), set (set list (count + 1) number) 0 (count + 1))
        unfolding plain_step right_plain right_number verdict_answer with_next
        step-done room rise is =
            let risen : max number top - top ≡ rise = omega (arith, is) in
            rw (← tops, ← eb, near, ← ea, new, whole, numbers_length list, ← ec, lt-leb most count room, risen)

-- ---- the loss line

module _ (list : PlainList) where
  -- how many of the last numbers, so many are looked at, are in the list
  abbrev pub counted : (looked : ℕ) → ℕ
  counted looked = sum (λ k. one (member (highest (numbers_of list) - k) (numbers_of list))) looked

  module _ (top : ℕ) (tops : top ≡ highest (numbers_of list)) (count looked : ℕ) (so_far : count ≡ counted looked) where
    -- one place more is looked at
    count_next : counted (looked + 1) ≡ count + one (member (top - looked) (numbers_of list))
    unfolding sum
    count_next = let e : looked + 1 ≡ suc looked = omega arith in ap counted e ∙ rw (tops, ← so_far)

    module _ (found : Bool) (ef : found ≡ member (top - looked) (numbers_of list)) where
      pub count_in : found ≡ true → count + 1 ≡ counted (looked + 1)
      count_in h = omega (arith, count_next, ap one (sym ef ∙ h))

      pub count-out : found ≡ false → count ≡ counted (looked + 1)
      count-out h = omega (arith, count_next, ap one (sym ef ∙ h))

    pub line-done : (span : ℕ) → span ≡ min top 64 → looked ≤ span → span ≤ looked →
        ◌≡◌ {A = LossLine} (record { highest = top; span = span; count = count }) (plain_loss list)
    unfolding plain_loss
    line-done span es l g = let e : looked ≡ min (highest (numbers_of list)) 64 = omega (arith, es, tops) in rw (so_far, e, es, tops)
