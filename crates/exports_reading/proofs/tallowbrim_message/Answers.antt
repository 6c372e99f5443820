use Prim.Native.Nat.{ℕ}
use mathlib.Core.Path.{◌≡◌, refl}
use mathlib.Core.List.{List, [], ◌∷◌}
use Rattle.exports_words.specs.Given.{given, left, words}
use Rattle.message_chain.specs.Message.{message_answer}
use Rattle.message_chain.specs.Message.{Message}
use Rattle.message_chain.specs.Message.{Refused, Read}
use Rattle.exports_reading.proofs.tallowbrim_message.Goals as goal

module _ (answer said : Message) (same : answer ≡ said) (out : List ℕ) where
  given-refused : (number : ℕ) → answer ≡ Refused number → given 2 (message_answer said) out ≡ (number, out)
  unfolding given left message_answer
  given-refused number is = rw (← same, is)

  given-read : (exchange count : ℕ) → answer ≡ Read exchange count → given 2 (message_answer said) out ≡ (0, exchange ∷ count ∷ [])
  unfolding given left words message_answer
  given-read exchange count is = rw (← same, is)

pub returns-in-Err : goal.returns-in-Err
returns-in-Err c = rw c.from.ensures (given-refused _ _ c.in-Err.ensures _ _ refl)

pub returns-in-Ok : goal.returns-in-Ok
returns-in-Ok c = given-read _ _ c.in-Ok.ensures _ _ _ refl
