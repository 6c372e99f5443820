use Prim.Native.Nat.{ℕ}
use mathlib.Core.Path.{◌≡◌}
use mathlib.Core.List.{List, [], ◌∷◌}
use Rattle.std.specs.Prelude.{Result, Ok, Err}
use Rattle.refusal.specs.Numbers.{number}
use Rattle.refusal.specs.declared.Refusal.{Refusal}
use Rattle.exports_words.specs.Given.{given, left, words}
use Rattle.port4500.specs.Port.{Datagram as Told, datagram_answer, datagram_told}
use Rattle.port4500.specs.declared.Datagram.{Datagram}
use Rattle.port4500.specs.declared.Datagram.TheVariants.{Keepalive, KeyExchange, Esp}
use Rattle.exports_reading.proofs.tallowbrim_datagram.Goals as goal

module _ (answer : Result Datagram Refusal) (said : Told) (same : datagram_told answer ≡ said) (out : List ℕ) where
  module _ (d : Datagram) (lawful : answer ≡ Ok d) where
    given-keepalive : d ≡ Keepalive → given 3 (datagram_answer said) out ≡ (0, 1 ∷ 0 ∷ 0 ∷ [])
    unfolding given left words datagram_answer
    given-keepalive is = rw (← same, lawful, is)

    given-exchange : (start length : ℕ) → d ≡ KeyExchange start length → given 3 (datagram_answer said) out ≡ (0, 2 ∷ start ∷ length ∷ [])
    unfolding given left words datagram_answer
    given-exchange start length is = rw (← same, lawful, is)

    given-esp : (length : ℕ) → d ≡ Esp length → given 3 (datagram_answer said) out ≡ (0, 3 ∷ length ∷ 0 ∷ [])
    unfolding given left words datagram_answer
    given-esp length is = rw (← same, lawful, is)

  given-refused : (refusal : Refusal) → answer ≡ Err refusal → (n : ℕ) → n ≡ number refusal → given 3 (datagram_answer said) out ≡ (n, out)
  unfolding given left datagram_answer
  given-refused refusal is n its = rw (← same, is, its)

pub returns-in-Ok-Keepalive : goal.returns-in-Ok-Keepalive
returns-in-Ok-Keepalive c = search given-keepalive

pub returns-in-Ok-KeyExchange : goal.returns-in-Ok-KeyExchange
returns-in-Ok-KeyExchange c = search given-exchange

pub returns-in-Ok-Esp : goal.returns-in-Ok-Esp
returns-in-Ok-Esp c = search given-esp

pub returns-in-Err : goal.returns-in-Err
returns-in-Err c = search given-refused
