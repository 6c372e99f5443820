use Prim.Native.Nat.{ℕ, ◌≤◌, ◌<◌}
use mathlib.Core.Path.{◌≡◌, refl}
use mathlib.Core.List.{List, [], ◌∷◌}
use borrow.Author.Tests.{le-leb, lt-leb}
use Rattle.exports_words.specs.Given.{given, left, words}
use Rattle.message_chain.specs.Message.{message, payload_at}
use Rattle.message_chain.specs.Message.{Message}
use Rattle.message_chain.specs.Message.{Refused, Read}
use Rattle.message_chain.specs.declared.Payload.{Payload}
use Rattle.exports_reading.specs.Payloads.{read_payload, payload_answer}
use Rattle.exports_reading.proofs.tallowbrim_payload.Goals as goal

module _ (m : List ℕ) (place : ℕ) (answer : Message) (same : answer ≡ message m) (out : List ℕ) where
  given-refused : (number : ℕ) → answer ≡ Refused number → given 3 (payload_answer place m) out ≡ (number, out)
  unfolding given left payload_answer read_payload
  given-refused number is = rw (← same, is)

  module _ (exchange count : ℕ) (is : answer ≡ Read exchange count) where
    given_nothing : count ≤ place → given 3 (payload_answer place m) out ≡ (16, out)
    unfolding given left payload_answer read_payload
    given_nothing past = rw (← same, is, le-leb count place past)

    given-payload : place < count → (p : Payload) → p ≡ payload_at place m →
        given 3 (payload_answer place m) out ≡ (0, p.payloadtype ∷ p.start ∷ p.length ∷ [])
    unfolding given left words payload_answer read_payload
    given-payload there p ep = rw (← same, is, lt-leb count place there, ← ep)

pub returns-then-read-place : goal.returns-then-read-place
returns-then-read-place c = given_nothing _ _ _ c.in-Ok.ensures _ _ _ refl c.if-read-place.true

pub returns-in-Err : goal.returns-in-Err
returns-in-Err c = rw c.from.ensures (given-refused _ _ _ c.in-Err.ensures _ _ refl)

pub returns-else-read-place : goal.returns-else-read-place
returns-else-read-place c =
    given-payload _ _ _ c.in-Ok.ensures _ _ _ refl c.if-read-place.false _ c.payload_at-p.ensures
