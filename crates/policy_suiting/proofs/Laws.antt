-- What a search finds is the first that passes its test; and what a set that suits has passed.
use Prim.Native.Nat.{ℕ, zero, suc, ◌+◌, ◌≤◌, ◌<◌}
use mathlib.Core.Path.{◌≡◌, refl, sym, ap, ◌∙◌}
use mathlib.Core.Logic.{◌⊎◌, inl, inr, ⊎_elim}
use mathlib.Core.List.{List}
use mathlib.Core.Bool.{Bool, true, false, ◌||◌, ◌&&◌, or-true}
use native.Mathlib.Omega.{arith}
use lib.Dec.{eqb, leb}
use borrow.Author.Tests.{eqb-true, eq-eqb, ne_eqb, leb-true, leb-false, le-leb}
use Rattle.wire_read.specs.Tests.{if◌then◌otherwise◌}
use Rattle.wire_read.proofs.Tests.{clash, both, by_test}
use Rattle.sa_fields.specs.Fields.{transform_count}
use Rattle.sa_items.specs.Items.{proposal, proposal_count}
use Rattle.policy_lines.specs.Lines.{quick_protocols}
use Rattle.policy_suits.specs.Suits.{transform_suits, lowest_from, lowest, protocols_alone, protocols_both, protocols_suit, set_suits}

-- First test n k r: of the n from k on, r is 1 more than the first that passes the test, or it is 0 and none passes
pub data First (test : ℕ → Bool) (n k : ℕ) : ℕ → Type 0 where
  none : ((j : ℕ) → k ≤ j → j < k + n → test j ≡ false) → First test n k 0
  here : (j : ℕ) → k ≤ j → j < k + n → test j ≡ true → ((i : ℕ) → k ≤ i → i < j → test i ≡ false) → First test n k (j + 1)

-- the first of the n from k on that passes the test, counted from 1; 0 where none does
unfoldable pub first_from : (ℕ → Bool) → ℕ → ℕ → ℕ
first_from test zero k = 0
first_from test (suc n) k = if test k then k + 1 otherwise first_from test n (k + 1)

-- what holds at k and from k + 1 on holds from k on
module _ (test : ℕ → Bool) (k top : ℕ) (first : test k ≡ false) (after : (j : ℕ) → k + 1 ≤ j → j < top → test j ≡ false) where
  from_here : (j : ℕ) → k ≤ j → j < top → test j ≡ false
  from_here j h l =
      by_test (leb (k + 1) j)
      (λ w. after j (leb-true (k + 1) j w) l)
      (λ w. let same : j ≡ k = omega (arith, leb-false (k + 1) j w) in ap test same ∙ first)

one_more : (test : ℕ → Bool) (n k : ℕ) {r : ℕ} → test k ≡ false → First test n (k + 1) r → First test (suc n) k r
one_more test n k e (none f) = none (λ j h l. from_here test k (k + suc n) e (λ i g m. f i g (omega arith)) j h l)
one_more test n k e (here j h l t f) = here j (omega arith) (omega arith) t (λ i g m. from_here test k j e f i g m)

pick_first : (test : ℕ → Bool) (n k r : ℕ) → First test n (k + 1) r → (b : Bool) → test k ≡ b → First test (suc n) k (if b then k + 1 otherwise r)
pick_first test n k r f true e = here k (omega arith) (omega arith) e (λ i h l. absurd (omega arith))
pick_first test n k r f false e = one_more test n k e f

pub first_from_lem : (test : ℕ → Bool) (n k : ℕ) → First test n k (first_from test n k)
unfolding first_from
first_from_lem test zero k = none (λ j h l. absurd (omega arith))
first_from_lem test (suc n) k = pick_first test n k (first_from test n (k + 1)) (first_from_lem test n (k + 1)) (test k) refl

-- ---- the lowest transform

module _ (exchange i : ℕ) (book p : List ℕ) where
  lowest-first : (n k : ℕ) → first_from (transform_suits exchange i book p) n k ≡ lowest_from n k exchange i book p
  unfolding first_from lowest_from
  lowest-first zero k = refl
  lowest-first (suc n) k = rw (lowest-first n (k + 1))

  pub lowest-is : First (transform_suits exchange i book p) (transform_count p) 0 (lowest exchange i book p)
  unfolding lowest
  lowest-is = rw (← lowest-first (transform_count p) 0) (first_from_lem (transform_suits exchange i book p) (transform_count p) 0)

-- ---- what a set that suits has passed

-- a transform of the proposal passes the test
abbrev pub Passes : (exchange i : ℕ) (book p : List ℕ) → Type 0
Passes exchange i book p = (k : ℕ) × (k < transform_count p) × (transform_suits exchange i book p k ≡ true)

-- the protocols pass theirs, and a transform of each proposal
pub record Passed (exchange i : ℕ) (book set : List ℕ) : Type 0 where
  pub protocols : protocols_suit exchange i book set ≡ true
  pub each : (j : ℕ) → j < proposal_count set → Passes exchange i book (proposal j set)

module _ (exchange i : ℕ) (book p : List ℕ) where
  found_of : {n : ℕ} → First (transform_suits exchange i book p) (transform_count p) 0 n → 1 ≤ n → Passes exchange i book p
  found_of (none f) h = absurd (omega arith)
  found_of (here j a b t f) h = (j, omega arith, t)

  low_of : {n : ℕ} → First (transform_suits exchange i book p) (transform_count p) 0 n → Passes exchange i book p → 1 ≤ n
  low_of (none f) (k, l, t) = clash (sym (f k (omega arith) (omega arith)) ∙ t)
  low_of (here j a b t f) g = omega arith

  has-transform : leb 1 (lowest exchange i book p) ≡ true → Passes exchange i book p
  has-transform h = found_of (lowest-is exchange i book p) (leb-true 1 (lowest exchange i book p) h)

  pub transform_low : Passes exchange i book p → leb 1 (lowest exchange i book p) ≡ true
  transform_low g = le-leb 1 (lowest exchange i book p) (low_of (lowest-is exchange i book p) g)

-- the protocols of a line are one or two
module _ (s : List ℕ) where
  alone : (wanted : ℕ) → protocols_alone wanted s ≡ true → proposal_count s ≡ 1
  unfolding protocols_alone
  alone wanted h = eqb-true (proposal_count s) 1 (both (eqb (proposal_count s) 1) _ h).0

  paired : protocols_both s ≡ true → proposal_count s ≡ 2
  unfolding protocols_both
  paired h = eqb-true (proposal_count s) 2 (both (eqb (proposal_count s) 2) _ h).0

  pick-few : (a b : Bool) → (if a then protocols_alone 1 s otherwise if b then protocols_alone 3 s otherwise protocols_both s) ≡ true →
      (proposal_count s ≡ 1) ⊎ (proposal_count s ≡ 2)
  pick-few true b h = inl (alone 1 h)
  pick-few false true h = inl (alone 3 h)
  pick-few false false h = inr (paired h)

module _ (exchange i : ℕ) (book s : List ℕ) where
  few : protocols_suit exchange i book s ≡ true → (proposal_count s ≡ 1) ⊎ (proposal_count s ≡ 2)
  unfolding protocols_suit
  few h = pick-few s (eqb exchange 2) (eqb (quick_protocols i book) 1) h

  -- the second proposal, where there is one
  second : (eqb (proposal_count s) 1 || leb 1 (lowest exchange i book (proposal 1 s))) ≡ true → (proposal_count s ≡ 1 → ⊥) →
      Passes exchange i book (proposal 1 s)
  second h d = has-transform exchange i book (proposal 1 s) (rw (ne_eqb (proposal_count s) 1 d) at h)

  each_of : (c : (proposal_count s ≡ 1) ⊎ (proposal_count s ≡ 2)) → Passes exchange i book (proposal 0 s) →
      ((proposal_count s ≡ 1 → ⊥) → Passes exchange i book (proposal 1 s)) →
      (j : ℕ) → j < proposal_count s → Passes exchange i book (proposal j s)
  each_of c f g zero l = f
  each_of c f g (suc zero) l = g (λ e. omega arith)
  each_of c f g (suc (suc j)) l = absurd (⊎_elim (λ e. omega arith) (λ e. omega arith) c)

  pub suits_passed : set_suits exchange i book s ≡ true → Passed exchange i book s
  unfolding set_suits
  suits_passed h =
      let outer = both (protocols_suit exchange i book s && leb 1 (lowest exchange i book (proposal 0 s))) _ h in
      let inner = both (protocols_suit exchange i book s) (leb 1 (lowest exchange i book (proposal 0 s))) outer.0 in
      record {
        protocols = inner.0;
        each = each_of (few inner.0) (has-transform exchange i book (proposal 0 s) inner.1) (second outer.1);
      }

  pub passed_suits : Passed exchange i book s → set_suits exchange i book s ≡ true
  unfolding set_suits
  passed_suits u =
      let low : (j : ℕ) → j < proposal_count s → leb 1 (lowest exchange i book (proposal j s)) ≡ true =
      λ j l. transform_low exchange i book (proposal j s) (u.each j l) in
      ⊎_elim
      (λ e. rw (u.protocols, low 0 (omega arith), eq-eqb (proposal_count s) 1 e))
      (λ e. rw (u.protocols, low 0 (omega arith), low 1 (omega arith)) (or-true (eqb (proposal_count s) 1)))
      (few u.protocols)
