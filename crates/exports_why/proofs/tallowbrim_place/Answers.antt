use Prim.Native.Nat.{ℕ}
use mathlib.Core.Path.{◌≡◌, refl}
use mathlib.Core.List.{List, [], ◌∷◌}
use mathlib.Core.Bool.{Bool, true, false, not}
use Rattle.wire_read.specs.Tests.{if◌then◌otherwise◌}
use Rattle.message_chain.specs.Message.{message}
use Rattle.policy_choice.specs.Choice.{sa_from}
use Rattle.policy_why.specs.Why.{message_offer, is_place}
use Rattle.policy_why.specs.Offer.{Offer}
use Rattle.policy_why.specs.Offer.{Refused, Readable}
use Rattle.policy_why.specs.declared.Places.{Places}
use Rattle.exports_words.specs.Given.{given, left, words}
use Rattle.exports_why.specs.Places.{found_values, place_values, offer_place, place_answer}
use Rattle.exports_why.proofs.tallowbrim_place.Goals as goal

some_left : (missing : Bool) (values out : List ℕ) →
    left 4 (if missing then 1 ∷ [] otherwise 2 ∷ values) out ≡ words 4 (if missing then 1 ∷ [] otherwise 2 ∷ values)
unfolding left
some_left true values out = refl
some_left false values out = refl

place-left : (body : List ℕ) (at : Places) (out : List ℕ) → left 4 (place_values body at) out ≡ words 4 (place_values body at)
unfolding place_values found_values
place-left body at out = some_left (not (is_place body at)) _ out

module _ (m : List ℕ) (at : Places) (out : List ℕ) where
  given-refused : (number n : ℕ) → Refused number ≡ message_offer m (message m) → n ≡ number → given 4 (place_answer m at) out ≡ (n, out)
  unfolding given left place_answer offer_place
  given-refused number n same is = rw (← same, is)

  given-place : (exchange count : ℕ) → Readable exchange count ≡ message_offer m (message m) → (body r : List ℕ) → body ≡ sa_from count 0 m →
      r ≡ words 4 (place_values body at) → given 4 (place_answer m at) out ≡ (0, r)
  unfolding given place_answer offer_place
  given-place exchange count same body r eb er = rw (← same, ← eb, place-left, ← er)

pub returns-in-Err : goal.returns-in-Err
returns-in-Err c = let told = c.in-Err.ensures in search given-refused

pub returns-in-Ok : goal.returns-in-Ok
returns-in-Ok c = let told = c.in-Ok.ensures in search given-place
