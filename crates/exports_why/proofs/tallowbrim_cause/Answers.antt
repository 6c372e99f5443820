use Prim.Native.Nat.{ℕ}
use mathlib.Core.Path.{◌≡◌, refl}
use mathlib.Core.List.{List}
use Rattle.std.specs.Prelude.{Ok}
use Rattle.exports_words.specs.Given.{given, left, words}
use Rattle.policy_why.specs.Why.{Why, Refused, why_told, why_answer}
use Rattle.policy_why.specs.declared.Why.{Why as Said}
use Rattle.policy_why.specs.declared.Why.TheVariants as said
use Rattle.exports_why.proofs.tallowbrim_cause.Goals as goal

module _ (told : Why) (out : List ℕ) where
  given-refused : (number n : ℕ) → Refused number ≡ told → n ≡ number → given 5 (why_answer told) out ≡ (n, out)
  unfolding given left why_answer
  given-refused number n same is = rw (← same, is)

said-done : (said : Said) (out : List ℕ) → given 5 (why_answer (why_told (Ok said))) out ≡ (0, words 5 (why_answer (why_told (Ok said))).values)
unfolding given left why_answer
said-done said.NoSuchPlace out = refl
said-done said.Protocols out = refl
said-done (said.Transform cause) out = refl

given-said : (said : Said) (told : Why) → why_told (Ok said) ≡ told → (r out : List ℕ) → r ≡ words 5 (why_answer (why_told (Ok said))).values →
    given 5 (why_answer told) out ≡ (0, r)
given-said said told same r out er = rw (← same, er) (said-done said out)

pub returns-in-Err : goal.returns-in-Err
returns-in-Err c = let told = c.in-Err.ensures in search given-refused

pub returns-in-Ok : goal.returns-in-Ok
returns-in-Ok c = given-said _ _ c.in-Ok.ensures _ _ c.why_words.ensures
