-- A set that suits a line has one proposal, or one for AH and one for ESP, and a transform of it that suits is short: at most 56 bytes.
use Prim.Native.Nat.{ℕ, ◌-◌, ◌≤◌, ◌<◌}
use mathlib.Core.Path.{◌≡◌, refl, ap, ◌∙◌}
use mathlib.Core.Logic.{◌⊎◌, inl, inr}
use mathlib.Core.List.{List}
use mathlib.Core.Bool.{Bool, true, false, ◌||◌, ◌&&◌}
use native.Mathlib.Omega.{arith}
use lib.ListN.{length, get_or}
use lib.Dec.{eqb}
use borrow.Author.Tests.{eqb-true, leb-true}
use Rattle.wire_read.specs.Tests.{if◌then◌otherwise◌}
use Rattle.wire_read.proofs.Tests.{both, by_test}
use Rattle.sa_transforms.proofs.Laws.{LawfulTransform}
use Rattle.sa_proposals.proofs.Laws.{Item}
use Rattle.sa_proposals.proofs.Known.{Known, isakmp, ah-of, esp-of, known_of}
use Rattle.sa_fields.specs.Fields.{protocol, transform_count}
use Rattle.sa_items.specs.Items.{proposal, proposal_count, transform}
use Rattle.sa_items.proofs.Laws.{transform-lawful}
use Rattle.policy_lines.specs.Lines.{quick_protocols}
use Rattle.policy_suits.specs.Suits.{suits_line, transform_suits, lowest, protocols_alone, protocols_both, protocols_suit}
use Rattle.policy_suiting.proofs.Laws.{First, none, here, lowest-is, Passes, transform_low}
use Rattle.policy_suiting.proofs.TransformLaws.{main-short, quick-short}

suits-short : {exchange wanted : ℕ} → Known exchange wanted → (i : ℕ) (book p : List ℕ) (k : ℕ) → LawfulTransform exchange (transform k p) →
    transform_suits exchange i book p k ≡ true → length (transform k p) ≤ 56
unfolding transform_suits suits_line
suits-short isakmp i book p k l h = main-short (transform k p) l _ h
suits-short ah-of i book p k l h = quick-short (transform k p) l _ _ _ _ h
suits-short esp-of i book p k l h = quick-short (transform k p) l _ _ _ _ h

-- "a main transform suits .. A quick one": of a proposal that reads, at most 56 bytes
pub suiting_short : (exchange i : ℕ) (book p : List ℕ) (k : ℕ) → Item exchange p → k < transform_count p → transform_suits exchange i book p k ≡ true →
    length (transform k p) ≤ 56
suiting_short exchange i book p k item l h = suits-short (known_of exchange (get_or p 5 0) item.known) i book p k (transform-lawful exchange p item k l) h

-- ---- what the choice takes

-- "lowest transform in each proposal"
abbrev pub chosen_in : ℕ → ℕ → List ℕ → List ℕ → List ℕ
chosen_in exchange i book p = transform (lowest exchange i book p - 1) p

first_taken : {test : ℕ → Bool} {n r : ℕ} → First test n 0 r → 1 ≤ r → (r - 1 < n) × (test (r - 1) ≡ true)
first_taken (none f) h = absurd (omega arith)
first_taken {test} (here j a b t f) h = (omega arith, ap test (omega arith) ∙ t)

module _ (exchange i : ℕ) (book p : List ℕ) (item : Item exchange p) (some : Passes exchange i book p) where
  pub taken : (lowest exchange i book p - 1 < transform_count p) × (transform_suits exchange i book p (lowest exchange i book p - 1) ≡ true)
  taken = first_taken (lowest-is exchange i book p) (leb-true 1 (lowest exchange i book p) (transform_low exchange i book p some))

-- "its protocols are exactly the line's": one proposal, or one for AH and one for ESP
pub record Pair (s : List ℕ) : Type 0 where
  pub two : proposal_count s ≡ 2
  pub other : protocol (proposal 0 s) ≡ protocol (proposal 1 s) → ⊥
  pub quick : protocol (proposal 0 s) ≡ 1 → ⊥

module _ (s : List ℕ) where
  pair : protocols_both s ≡ true → Pair s
  unfolding protocols_both
  pair h =
      let a : ℕ = protocol (proposal 0 s) in
      let b : ℕ = protocol (proposal 1 s) in
      let outer = both (eqb (proposal_count s) 2) (eqb a 2 && eqb b 3 || eqb a 3 && eqb b 2) h in
      by_test (eqb a 2 && eqb b 3)
      (λ e. let two = both (eqb a 2) (eqb b 3) e in
      record {
        two = eqb-true _ _ outer.0;
        other = λ x. omega (arith, eqb-true a 2 two.0, eqb-true b 3 two.1);
        quick = λ x. omega (arith, eqb-true a 2 two.0);
      })
      (λ e. let two = both (eqb a 3) (eqb b 2) (rw e at outer).1 in
      record {
        two = eqb-true _ _ outer.0;
        other = λ x. omega (arith, eqb-true a 3 two.0, eqb-true b 2 two.1);
        quick = λ x. omega (arith, eqb-true a 3 two.0);
      })

  single : (wanted : ℕ) → protocols_alone wanted s ≡ true → proposal_count s ≡ 1
  unfolding protocols_alone
  single wanted h = eqb-true (proposal_count s) 1 (both (eqb (proposal_count s) 1) _ h).0

  one_or_pair : (a b : Bool) → (if a then protocols_alone 1 s otherwise if b then protocols_alone 3 s otherwise protocols_both s) ≡ true → (proposal_count s ≡ 1) ⊎ Pair s
  one_or_pair true b h = inl (single 1 h)
  one_or_pair false true h = inl (single 3 h)
  one_or_pair false false h = inr (pair h)

  pub shape : (exchange i : ℕ) (book : List ℕ) → protocols_suit exchange i book s ≡ true → (proposal_count s ≡ 1) ⊎ Pair s
  unfolding protocols_suit
  shape exchange i book h = one_or_pair (eqb exchange 2) (eqb (quick_protocols i book) 1) h

pub known-quick : {exchange wanted : ℕ} → Known exchange wanted → (wanted ≡ 1 → ⊥) → exchange ≡ 32
known-quick isakmp h = absurd (h refl)
known-quick ah-of h = refl
known-quick esp-of h = refl
