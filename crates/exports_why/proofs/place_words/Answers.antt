use Prim.Native.Nat.{ℕ}
use mathlib.Core.Path.{◌≡◌}
use mathlib.Core.List.{List, [], ◌∷◌}
use mathlib.Core.Bool.{Bool, true, false, not}
use Rattle.sa_items.specs.Items.{proposal, transform}
use Rattle.sa_sets.specs.Sets.{set}
use Rattle.policy_why.specs.Why.{is_place}
use Rattle.policy_why.specs.declared.Places.{Places}
use Rattle.exports_words.specs.Given.{words}
use Rattle.exports_why.specs.Places.{found_values, place_values}
use Rattle.exports_why.proofs.place_words.Goals as goal

module _ (body : List ℕ) (at : Places) (found : Bool) (ef : found ≡ is_place body at) where
  no_place : not found ≡ true → 1 ∷ 0 ∷ 0 ∷ 0 ∷ [] ≡ words 4 (place_values body at)
  unfolding words place_values
  no_place h = rw (← ef, h)

  a-place : not found ≡ false → (s p t r : List ℕ) → s ≡ set at.set body → p ≡ proposal at.proposal s → t ≡ transform at.transform p →
      r ≡ found_values s p t → r ≡ words 4 (place_values body at)
  unfolding words place_values found_values
  a-place h s p t r es ep et er = rw (← ef, h, ← es, ← ep, ← et) er

pub returns-then-not-is_place : goal.returns-then-not-is_place
returns-then-not-is_place c = search no_place

pub returns : goal.returns
returns c = search a-place
