-- The values of transforms and of SPIs are three.
use mathlib.Core.Path.{◌≡◌, refl}
use mathlib.Core.List.{[], ◌∷◌}
use lib.ListN.{get_or}
use Rattle.policy_choice.specs.declared.Transforms.{Transforms}
use Rattle.policy_choice.specs.declared.Transforms.TheVariants.{One, Two}
use Rattle.quick_end.specs.declared.Spis.{Spis}
use Rattle.quick_end.specs.declared.Spis.TheVariants.{Alone, Both}
use Rattle.exports_end.specs.Ends.{transforms_values, spis_values}

pub three-transforms : (transforms : Transforms) → transforms_values transforms ≡
    get_or (transforms_values transforms) 0 0 ∷ get_or (transforms_values transforms) 1 0 ∷ get_or (transforms_values transforms) 2 0 ∷ []
unfolding transforms_values
three-transforms (One first) = refl
three-transforms (Two first second) = refl

pub three_spis : (spis : Spis) → spis_values spis ≡ get_or (spis_values spis) 0 0 ∷ get_or (spis_values spis) 1 0 ∷ get_or (spis_values spis) 2 0 ∷ []
unfolding spis_values
three_spis (Alone first) = refl
three_spis (Both first second) = refl
