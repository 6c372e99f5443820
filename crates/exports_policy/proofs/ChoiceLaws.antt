-- No two choices have the same number and words: the third word is 0, 1 or 2, for a refusal, one transform or two.
use Prim.Native.Nat.{ℕ}
use mathlib.Core.Path.{◌≡◌, ap}
use native.Mathlib.Omega.{arith}
use Rattle.sa_fields.specs.declared.ProposalNumber.{ProposalNumber}
use Rattle.sa_fields.specs.declared.TransformNumber.{TransformNumber}
use Rattle.policy_lines.specs.declared.LineNumber.{LineNumber}
use Rattle.policy_choice.specs.Choice.{Choice}
use Rattle.policy_choice.specs.Choice.{Refused, Chosen}
use Rattle.policy_choice.specs.declared.Transforms.TheVariants.{One, Two}
use Rattle.exports_words.specs.Given.{words}
use Rattle.exports_policy.specs.Choices.{chosen_answer}

-- a tuple struct is its number
same_set : (a b : ProposalNumber) → a.0 ≡ b.0 → a ≡ b
same_set a b e = ap (λ (n : ℕ). record { 0 = n }) e

same_line : (a b : LineNumber) → a.0 ≡ b.0 → a ≡ b
same_line a b e = ap (λ (n : ℕ). record { 0 = n }) e

same-transform : (a b : TransformNumber) → a.0 ≡ b.0 → a ≡ b
same-transform a b e = ap (λ (n : ℕ). record { 0 = n }) e

pub chosen_distinct : (a b : Choice) → (chosen_answer a).number ≡ (chosen_answer b).number →
    words 5 (chosen_answer a).values ≡ words 5 (chosen_answer b).values → a ≡ b
unfolding chosen_answer words
chosen_distinct (Refused n) (Refused m) numbers same = ap Refused numbers
chosen_distinct (Refused n) (Chosen s l (One t)) numbers same = let third : ◌≡◌ {A = ℕ} 0 1 = cc in absurd (omega arith)
chosen_distinct (Refused n) (Chosen s l (Two t u)) numbers same = let third : ◌≡◌ {A = ℕ} 0 2 = cc in absurd (omega arith)
chosen_distinct (Chosen s l (One t)) (Refused n) numbers same = let third : ◌≡◌ {A = ℕ} 1 0 = cc in absurd (omega arith)
chosen_distinct (Chosen s l (Two t u)) (Refused n) numbers same = let third : ◌≡◌ {A = ℕ} 2 0 = cc in absurd (omega arith)
chosen_distinct (Chosen s l (One t)) (Chosen s' l' (Two t' u')) numbers same = let third : ◌≡◌ {A = ℕ} 1 2 = cc in absurd (omega arith)
chosen_distinct (Chosen s l (Two t u)) (Chosen s' l' (One t')) numbers same = let third : ◌≡◌ {A = ℕ} 2 1 = cc in absurd (omega arith)
chosen_distinct (Chosen s l (One t)) (Chosen s' l' (One t')) numbers same =
    let es : s ≡ s' = same_set s s' (cc) in
    let el : l ≡ l' = same_line l l' (cc) in
    let et : t ≡ t' = same-transform t t' (cc) in
    cc
chosen_distinct (Chosen s l (Two t u)) (Chosen s' l' (Two t' u')) numbers same =
    let es : s ≡ s' = same_set s s' (cc) in
    let el : l ≡ l' = same_line l l' (cc) in
    let et : t ≡ t' = same-transform t t' (cc) in
    let eu : u ≡ u' = same-transform u u' (cc) in
    cc
