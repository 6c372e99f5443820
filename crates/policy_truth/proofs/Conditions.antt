-- Conditions, one after the other: the first that fails is the cause.
use Prim.Native.Nat.{ℕ}
use mathlib.Core.Path.{◌≡◌, refl, ap}
use mathlib.Core.List.{List, [], ◌∷◌, ◌++◌}
use mathlib.Core.Bool.{Bool, true, false}
use Rattle.std.specs.Prelude.{Option, None, Some}
use Rattle.wire_read.specs.Tests.{if◌then◌otherwise◌}
use Rattle.wire_read.proofs.Tests.{by_test}
use Rattle.policy_suiting.specs.Suiting.{at_front, behind}
use Rattle.policy_suiting.proofs.Exactly.{Within, none_within}
use Rattle.policy_cause.specs.declared.Cause.{Cause}
use Rattle.policy_cause.specs.Causes.{◌or_else◌, first_cause}

-- a condition holds, or its cause is the answer and is true
pub data Condition (True : Option Cause → Type 0) (Holds : Type 0) : Option Cause → Type 0 where
  holds : Holds → Condition True Holds None
  fails : {cause : Cause} → True (Some cause) → Condition True Holds (Some cause)

module _ {True : Option Cause → Type 0} where
  with_first : {First Next : Type 0} {next : Option Cause} → First → Condition True Next next → Condition True (First × Next) next
  with_first first (holds h) = holds (first, h)
  with_first first (fails says) = fails says

  pub and_then : {First Next : Type 0} {first next : Option Cause} → Condition True First first → (First → Condition True Next next) →
      Condition True (First × Next) (first or_else next)
  unfolding ◌or_else◌
  and_then (holds h) on = with_first h (on h)
  and_then (fails says) on = fails says

  pub all_told : {All : Type 0} {cause : Option Cause} → Condition True All cause → (cause ≡ None → True None) → True cause
  all_told (holds h) suit = suit refl
  all_told (fails says) suit = says

  -- a condition by one test
  pub by_condition : (test : Bool) (named : Cause) → (test ≡ false → True (Some named)) →
      Condition True (test ≡ true) (if test then None otherwise Some named)
  by_condition true named says = holds refl
  by_condition false named says = fails (says refl)

-- the first of a list that fails its test, each with its own cause
module _ (test : ℕ × ℕ → Bool) where
  abbrev pub Pass : (l : List (ℕ × ℕ)) → Type 0
  Pass l = (a : ℕ × ℕ) → Within a l → test a ≡ true

  pass_more : {a : ℕ × ℕ} {l : List (ℕ × ℕ)} → test a ≡ true → Pass l → Pass (a ∷ l)
  pass_more h all b (rest, at_front) = h
  pass_more h all b (rest, behind q) = all b (_, q)

  module _ (named : ℕ × ℕ → Cause) where
    pub data FirstFails (all : List (ℕ × ℕ)) : Option Cause → Type 0 where
      none_fails : Pass all → FirstFails all None
      one_fails : (before after : List (ℕ × ℕ)) (a : ℕ × ℕ) → all ≡ before ++ a ∷ after → Pass before → test a ≡ false → FirstFails all (Some (named a))

    first_on : {a : ℕ × ℕ} {all : List (ℕ × ℕ)} {cause : Option Cause} → test a ≡ true → FirstFails all cause → FirstFails (a ∷ all) cause
    first_on h (none_fails pass) = none_fails (pass_more h pass)
    first_on {a} h (one_fails before after b e pass f) =
        one_fails (a ∷ before) after b (ap (λ (l : List (ℕ × ℕ)). a ∷ l) e) (pass_more h pass) f

    pub first_fails : (all : List (ℕ × ℕ)) → FirstFails all (first_cause (λ a. if test a then None otherwise Some (named a)) all)
    unfolding first_cause ◌or_else◌
    first_fails [] = none_fails (λ a m. absurd (none_within m))
    first_fails (a ∷ all) =
        by_test (test a)
        (λ e. rw e (first_on e (first_fails all)))
        (λ e. rw e (one_fails [] all a refl (λ b m. absurd (none_within m)) e))
