use Prim.Native.Nat.{ℕ}
use mathlib.Core.Path.{◌≡◌, refl}
use mathlib.Core.List.{List, [], ◌∷◌}
use Rattle.policy_reply.specs.Reply.{reply_answer}
use Rattle.policy_reply.specs.Reply.{Outcome}
use Rattle.policy_reply.specs.Reply.{Refused, Written}
use Rattle.exports_words.specs.Given.{given, left, words}
use Rattle.exports_policy.specs.Replies.{reply_given}
use Rattle.exports_policy.proofs.tallowbrim_reply.Goals as goal

module _ (said : Outcome × List ℕ) (outcome : Outcome) (after : List ℕ) (same : said ≡ (outcome, after)) (out : List ℕ) where
  given-refused : (number : ℕ) → outcome ≡ Refused number → reply_given said out ≡ ((number, out), after)
  unfolding reply_given given left reply_answer
  given-refused number is = rw (same, is)

  given-written : (size : ℕ) → outcome ≡ Written size → reply_given said out ≡ ((0, size ∷ []), after)
  unfolding reply_given given left words reply_answer
  given-written size is = rw (same, is)

pub returns-in-Err : goal.returns-in-Err
returns-in-Err c = rw c.from.ensures (given-refused _ _ _ c.in-Err.ensures _ _ refl)

pub returns-in-Ok : goal.returns-in-Ok
returns-in-Ok c = given-written _ _ _ c.in-Ok.ensures _ _ refl
