use Prim.Native.Nat.{ℕ}
use mathlib.Core.Path.{◌≡◌, refl}
use mathlib.Core.List.{List, [], ◌∷◌}
use Rattle.sa_fields.specs.declared.ProposalNumber.{ProposalNumber}
use Rattle.sa_fields.specs.declared.TransformNumber.{TransformNumber}
use Rattle.policy_lines.specs.declared.LineNumber.{LineNumber}
use Rattle.policy_choice.specs.Choice.{Choice}
use Rattle.policy_choice.specs.Choice.{Refused, Chosen}
use Rattle.policy_choice.specs.declared.Transforms.{Transforms}
use Rattle.policy_choice.specs.declared.Transforms.TheVariants.{One, Two}
use Rattle.exports_words.specs.Given.{given, left, words}
use Rattle.exports_policy.specs.Choices.{chosen_answer}
use Rattle.exports_policy.proofs.tallowbrim_choose.Goals as goal

module _ (answer said : Choice) (same : answer ≡ said) (out : List ℕ) where
  given-refused : (number : ℕ) → answer ≡ Refused number → given 5 (chosen_answer said) out ≡ (number, out)
  unfolding given left chosen_answer
  given-refused number is = rw (← same, is)

  module _ (set : ProposalNumber) (line : LineNumber) (transforms : Transforms) (is : answer ≡ Chosen set line transforms) where
    given-one : (t : TransformNumber) → transforms ≡ One t → given 5 (chosen_answer said) out ≡ (0, set.0 ∷ line.0 ∷ 1 ∷ t.0 ∷ 0 ∷ [])
    unfolding given left words chosen_answer
    given-one t one = rw (← same, is, one)

    given-two : (t u : TransformNumber) → transforms ≡ Two t u →
        given 5 (chosen_answer said) out ≡ (0, set.0 ∷ line.0 ∷ 2 ∷ t.0 ∷ u.0 ∷ [])
    unfolding given left words chosen_answer
    given-two t u two = rw (← same, is, two)

pub returns-in-Err : goal.returns-in-Err
returns-in-Err c = rw c.from.ensures (given-refused _ _ c.in-Err.ensures _ _ refl)

pub returns-in-One : goal.returns-in-One
returns-in-One c = given-one _ _ c.in-Ok.ensures _ _ _ _ refl _ c.in-One.is

pub returns-in-Two : goal.returns-in-Two
returns-in-Two c = given-two _ _ c.in-Ok.ensures _ _ _ _ refl _ _ c.in-Two.is
