use Prim.Native.Nat.{ℕ}
use mathlib.Core.Path.{◌≡◌, refl}
use mathlib.Core.List.{[], ◌∷◌}
use Rattle.std.specs.Prelude.{Option, None, Some}
use Rattle.exports_words.specs.Given.{words}
use Rattle.policy_cause.specs.Causes.{cause_values}
use Rattle.policy_cause.specs.declared.Cause.{Cause}
use Rattle.policy_cause.specs.declared.Cause.TheVariants.{Id, Missing, Value, Surplus, Seconds, Kilobytes}
use Rattle.exports_why.proofs.cause_words.Goals as goal

its-suits : (asked : Option Cause) → ((cause : Cause) → asked ≡ Some cause → ⊥) → 3 ∷ 1 ∷ 0 ∷ 0 ∷ 0 ∷ [] ≡ words 5 (3 ∷ cause_values asked)
unfolding words cause_values
its-suits None h = refl
its-suits (Some cause) h = absurd (h cause refl)

module _ (asked : Option Cause) (cause : Cause) (some : asked ≡ Some cause) where
  its_id : (found wanted : ℕ) → cause ≡ Id found wanted → 3 ∷ 2 ∷ found ∷ wanted ∷ 0 ∷ [] ≡ words 5 (3 ∷ cause_values asked)
  unfolding words cause_values
  its_id found wanted is = rw (some, is)

  its-missing : (attributetype : ℕ) → cause ≡ Missing attributetype → 3 ∷ 3 ∷ attributetype ∷ 0 ∷ 0 ∷ [] ≡ words 5 (3 ∷ cause_values asked)
  unfolding words cause_values
  its-missing attributetype is = rw (some, is)

  its-value : (attributetype found wanted : ℕ) → cause ≡ Value attributetype found wanted →
      3 ∷ 4 ∷ attributetype ∷ found ∷ wanted ∷ [] ≡ words 5 (3 ∷ cause_values asked)
  unfolding words cause_values
  its-value attributetype found wanted is = rw (some, is)

  its-surplus : (attributetype found : ℕ) → cause ≡ Surplus attributetype found →
      3 ∷ 5 ∷ attributetype ∷ found ∷ 0 ∷ [] ≡ words 5 (3 ∷ cause_values asked)
  unfolding words cause_values
  its-surplus attributetype found is = rw (some, is)

  its-seconds : (found longest : ℕ) → cause ≡ Seconds found longest → 3 ∷ 6 ∷ found ∷ longest ∷ 0 ∷ [] ≡ words 5 (3 ∷ cause_values asked)
  unfolding words cause_values
  its-seconds found longest is = rw (some, is)

  its-kilobytes : cause ≡ Kilobytes → 3 ∷ 7 ∷ 0 ∷ 0 ∷ 0 ∷ [] ≡ words 5 (3 ∷ cause_values asked)
  unfolding words cause_values
  its-kilobytes is = rw (some, is)

pub returns-in_default : goal.returns-in_default
returns-in_default c = its-suits _ c.in_default.not-Some

pub returns-in-Id : goal.returns-in-Id
returns-in-Id c = search its_id

pub returns-in-Missing : goal.returns-in-Missing
returns-in-Missing c = search its-missing

pub returns-in-Value : goal.returns-in-Value
returns-in-Value c = search its-value

pub returns-in-Surplus : goal.returns-in-Surplus
returns-in-Surplus c = search its-surplus

pub returns-in-Seconds : goal.returns-in-Seconds
returns-in-Seconds c = search its-seconds

pub returns-in-Kilobytes : goal.returns-in-Kilobytes
returns-in-Kilobytes c = search its-kilobytes
