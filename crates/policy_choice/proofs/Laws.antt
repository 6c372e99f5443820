-- What the searches of the choice find: the first line that suits, and the first set that suits a line; and that 14 means that none does.
use Prim.Native.Nat.{ℕ, zero, suc, ◌+◌, ◌≤◌, ◌<◌}
use mathlib.Core.Path.{◌≡◌, refl, sym, ◌∙◌}
use mathlib.Core.List.{List}
use mathlib.Core.Bool.{true, false}
use native.Mathlib.Omega.{arith}
use lib.Dec.{eqb, leb}
use borrow.Author.Tests.{ne_eqb, leb-true, leb-false}
use Rattle.wire_read.specs.Tests.{if◌then◌otherwise◌}
use Rattle.wire_read.proofs.Tests.{never, clash, by_test}
use Rattle.sa_proposals.specs.Proposals.{offer_code}
use Rattle.sa_sets.specs.Sets.{set, set_count}
use Rattle.sa_sets.proofs.Places.{set-lawful}
use Rattle.policy_lines.specs.Lines.{line_at}
use Rattle.policy_lines.specs.declared.LineNumber.{LineNumber}
use Rattle.policy_suits.specs.Suits.{set_suits}
use Rattle.policy_suiting.specs.Suiting.{Suits}
use Rattle.policy_suiting.proofs.Laws.{First, none, here, first_from, first_from_lem}
use Rattle.policy_suiting.proofs.SuitingLaws.{suits-says, says-suits}
use Rattle.policy_choice.specs.Choice.{line_count, line_from, first_line, chosen, set_from, choose_from, NoneSuits}
use Rattle.policy_choice.specs.Choice.{Choice}
use Rattle.policy_choice.specs.Choice.{Refused}

-- ---- the first line

module _ (exchange : ℕ) (book s : List ℕ) where
  line_first : (n : ℕ) (last : LineNumber) → first_from (λ j. set_suits exchange j book s) n last.0 ≡ (line_from n last exchange book s).0
  unfolding first_from line_from
  line_first zero last = refl
  line_first (suc n) last =
      by_test (set_suits exchange last.0 book s) (λ e. rw e) (λ e. rw e (line_first n (line_at last.0)))

  pub line-is : First (λ j. set_suits exchange j book s) (line_count exchange book) 0 (first_line exchange book s).0
  unfolding first_line
  line-is = rw (← line_first (line_count exchange book) (record { 0 = 0 })) (first_from_lem (λ j. set_suits exchange j book s) (line_count exchange book) 0)

-- ---- the choice among the sets

-- no line of the book suits a set
abbrev pub NoLine : ℕ → List ℕ → List ℕ → Type 0
NoLine exchange book s = (i : ℕ) → i < line_count exchange book → set_suits exchange i book s ≡ false

-- 14 and no set from k on suits any line; or the first set that suits one, with the first line that it suits
pub data Choosing (exchange : ℕ) (book body : List ℕ) (n k : ℕ) : Choice → Type 0 where
  fourteen : ((j : ℕ) → k ≤ j → j < k + n → NoLine exchange book (set j body)) → Choosing exchange book body n k (Refused 14)
  chose : (j i : ℕ) → k ≤ j → j < k + n → i < line_count exchange book → set_suits exchange i book (set j body) ≡ true →
      ((l : ℕ) → k ≤ l → l < j → NoLine exchange book (set l body)) → ((l : ℕ) → l < i → set_suits exchange l book (set j body) ≡ false) →
      Choosing exchange book body n k (chosen exchange (line_at i) book (set j body))

module _ (exchange : ℕ) (book body : List ℕ) where
  -- a set that no line suits goes before
  before_it : (k top : ℕ) → NoLine exchange book (set k body) → ((j : ℕ) → k + 1 ≤ j → j < top → NoLine exchange book (set j body)) → (j : ℕ) →
      k ≤ j → j < top → NoLine exchange book (set j body)
  before_it k top first after j h l =
      by_test (leb (k + 1) j)
      (λ w. after j (leb-true (k + 1) j w) l)
      (λ w. let same : k ≡ j = omega (arith, leb-false (k + 1) j w) in rw same at first)

  goes_on : (n k : ℕ) {r : Choice} → NoLine exchange book (set k body) → Choosing exchange book body n (k + 1) r → Choosing exchange book body (suc n) k r
  goes_on n k e (fourteen f) = fourteen (before_it k (k + suc n) e (λ j h l. f j h (omega arith)))
  goes_on n k e (chose j i h l b t f g) = chose j i (omega arith) (omega arith) b t (before_it k j e f) g

  step : (n k : ℕ) {line : ℕ} (r : Choice) → First (λ i. set_suits exchange i book (set k body)) (line_count exchange book) 0 line →
      Choosing exchange book body n (k + 1) r →
      Choosing exchange book body (suc n) k (if eqb line 0 then r otherwise chosen exchange (record { 0 = line }) book (set k body))
  step n k r (none f) c = goes_on n k (λ i h. f i (omega arith) (omega arith)) c
  step n k r (here i h l t f) c =
      rw (ne_eqb (i + 1) 0 (λ e. omega arith))
      (chose k i (omega arith) (omega arith) (omega arith) t (λ j a b. absurd (omega arith)) (λ j b. f j (omega arith) b))

  choosing_from : (n k : ℕ) → Choosing exchange book body n k (set_from n k exchange book body)
  unfolding set_from
  choosing_from zero k = fourteen (λ j h l. absurd (omega arith))
  choosing_from (suc n) k = step n k (set_from n (k + 1) exchange book body) (line-is exchange book (set k body)) (choosing_from n (k + 1))

  -- of a body that reads: 14 exactly where no set suits any line
  module _ (reads : offer_code exchange body ≡ 0) where
    pub no_suit : (k i : ℕ) → k < set_count body → set_suits exchange i book (set k body) ≡ false → Suits exchange i book (set k body) → ⊥
    no_suit k i a h u = clash (sym h ∙ says-suits exchange i book (set k body) (set-lawful exchange body reads k a).lawful u)

    means_none : {r : Choice} → Choosing exchange book body (set_count body) 0 r → r ≡ Refused 14 → NoneSuits exchange book body
    unfolding chosen
    means_none (fourteen f) e = λ k i a b. no_suit k i a (f k (omega arith) (omega arith) i b)
    means_none (chose j i h l b t f g) e = never (cc)

    none_means : {r : Choice} → Choosing exchange book body (set_count body) 0 r → NoneSuits exchange book body → r ≡ Refused 14
    none_means (fourteen f) e = refl
    none_means (chose j i h l b t f g) e =
        let a : j < set_count body = omega arith in
        absurd (e j i a b (suits-says exchange i book (set j body) (set-lawful exchange body reads j a).lawful t))

    pub fourteen_none : choose_from exchange book body ≡ Refused 14 → NoneSuits exchange book body
    unfolding choose_from
    fourteen_none e = means_none (choosing_from (set_count body) 0) e

    pub none_fourteen : NoneSuits exchange book body → choose_from exchange book body ≡ Refused 14
    unfolding choose_from
    none_fourteen f = none_means (choosing_from (set_count body) 0) f

  pub choosing : Choosing exchange book body (set_count body) 0 (choose_from exchange book body)
  unfolding choose_from
  choosing = choosing_from (set_count body) 0
