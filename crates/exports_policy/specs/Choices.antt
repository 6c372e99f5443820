-- A choice by its values: the set, the line, how many transforms, the transforms. The count tells one transform from two of which the
-- second has the number 0.
use Rattle.std.specs.Prelude.{[], ◌∷◌}
use Rattle.wire_read.specs.Answer.{Answer, done, refused}
use Rattle.policy_choice.specs.Choice.{Choice}
use Rattle.policy_choice.specs.Choice.{Refused, Chosen}
use Rattle.policy_choice.specs.declared.Transforms.TheVariants.{One, Two}

unfoldable pub chosen_answer : (chosen : Choice) → Answer
chosen_answer (Refused number) = refused number
chosen_answer (Chosen set line (One t)) = done (set.0 ∷ line.0 ∷ 1 ∷ t.0 ∷ [])
chosen_answer (Chosen set line (Two t u)) = done (set.0 ∷ line.0 ∷ 2 ∷ t.0 ∷ u.0 ∷ [])
