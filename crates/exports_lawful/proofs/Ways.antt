-- A law for each way out of this crate's functions: what an answer of the core is as it is given.
use Prim.Native.Nat.{ℕ}
use mathlib.Core.Path.{◌≡◌, refl}
use mathlib.Core.List.{List, [], ◌∷◌}
use mathlib.Core.Bool.{Bool, true, false}
use Rattle.exports_words.specs.Given.{given, left, words}
use Rattle.std.specs.Prelude.{Option, None, Some, is_some}
use Rattle.std.specs.Bool.{then_some}
use Rattle.std.specs.Borrow.{Bor}
use Rattle.policy_lawful.specs.declared.Difference.{Difference as Found}
use Rattle.policy_lawful.specs.Lawful.{unread, compared, first_difference, reply_lawful, lawful_answer, difference_values, difference_answer}
use Rattle.policy_lawful.specs.Difference.{Difference, difference_told, book_bytes}
use Rattle.policy_lawful.specs.Difference.{Nothing, OfferRefused, BookRefused, ReplyRefused, SeveralSets, SetNotOffered, Protocols, Order, SeveralTransforms, TransformNotOffered, Id, Attributes, OtherSet, OtherTransform, NothingChosen}
use Rattle.policy_lawful.specs.Difference.{Lawfulness}
use Rattle.policy_lawful.specs.Difference.{Refused, Lawful}

-- ---- whether a reply is lawful

module _ (said : Lawfulness) where
  pub given-refused : (number n : ℕ) → Refused number ≡ said → n ≡ number → n ≡ (lawful_answer said).number
  unfolding lawful_answer
  given-refused number n same is = rw (← same, is)

  pub given-lawful : Lawful ≡ said → 0 ≡ (lawful_answer said).number
  unfolding lawful_answer
  given-lawful same = rw (← same)

-- where there is no book its bytes are not looked at
difference_booked : (booked : Bool) (book : Bor (List ℕ)) (offer reply : List ℕ) →
    first_difference (is_some (then_some booked book)) (book_bytes (then_some booked book)) offer reply ≡ first_difference booked book.now offer reply
unfolding first_difference unread compared
difference_booked true book offer reply = refl
difference_booked false book offer reply = refl

module _ (booked : Bool) (book : Bor (List ℕ)) (offer reply : List ℕ) (there : Option (Bor (List ℕ))) (et : there ≡ then_some booked book) where
  pub same-difference : first_difference (is_some there) (book_bytes there) offer reply ≡ first_difference booked book.now offer reply
  same-difference = rw et (difference_booked booked book offer reply)

  pub same-lawful : reply_lawful (is_some there) (book_bytes there) offer reply ≡ reply_lawful booked book.now offer reply
  unfolding reply_lawful
  same-lawful = rw same-difference

-- ---- what differs first

pub nothing_form : (asked : Option Found) → ((found : Found) → asked ≡ Some found → ⊥) → 1 ∷ 0 ∷ 0 ∷ 0 ∷ 0 ∷ [] ≡ words 5 (difference_values (difference_told asked))
unfolding words difference_values
nothing_form None h = refl
nothing_form (Some found) h = absurd (h found refl)

module _ (asked : Option Found) (difference form : Found) (some : asked ≡ Some difference) (is : difference ≡ form) where
  pub difference_form : (ws : List ℕ) → ws ≡ words 5 (difference_values (difference_told (Some form))) →
      ws ≡ words 5 (difference_values (difference_told asked))
  difference_form ws are = rw (some, is, are)

-- every form has values
difference_done : (difference : Difference) (out : List ℕ) → given 5 (difference_answer difference) out ≡ (0, words 5 (difference_values difference))
unfolding given left difference_answer difference_values
difference_done Nothing out = refl
difference_done (OfferRefused number) out = refl
difference_done (BookRefused number) out = refl
difference_done (ReplyRefused number) out = refl
difference_done (SeveralSets count) out = refl
difference_done (SetNotOffered number) out = refl
difference_done Protocols out = refl
difference_done Order out = refl
difference_done (SeveralTransforms protocol count) out = refl
difference_done (TransformNotOffered protocol number) out = refl
difference_done (Id protocol number found offered) out = refl
difference_done (Attributes protocol number) out = refl
difference_done (OtherSet found chosen) out = refl
difference_done (OtherTransform protocol found chosen) out = refl
difference_done NothingChosen out = refl

pub difference_given : (difference said : Difference) → difference ≡ said → (ws : List ℕ) → ws ≡ words 5 (difference_values difference) →
    (out : List ℕ) → given 5 (difference_answer said) out ≡ (0, ws)
difference_given difference said same ws are out = rw (are, same) (difference_done said out)
