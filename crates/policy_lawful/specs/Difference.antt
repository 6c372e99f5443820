-- What is told of a reply: what differs first, and whether it is lawful; and what the code says so by.
use Rattle.std.specs.Prelude.{ℕ, ◌≡◌, Option, None, Some, Result, Ok, Err, []}
use Rattle.std.specs.Borrow.{Bor}
use Rattle.wire_read.specs.Wire.{Bytes}
use Rattle.refusal.specs.declared.Refusal.{Refusal}
use Rattle.refusal.specs.Numbers.{number}
use Rattle.sa_fields.specs.declared.ProposalNumber.{ProposalNumber}
use Rattle.sa_fields.specs.declared.TransformNumber.{TransformNumber}
use Rattle.policy_lawful.specs.declared.Difference.{Difference as Found}
use Rattle.policy_lawful.specs.declared.Difference.TheVariants as found

pub data Difference : Type 0 where
  Nothing : Difference
  OfferRefused : (number : ℕ) → Difference
  BookRefused : (number : ℕ) → Difference
  ReplyRefused : (number : ℕ) → Difference
  SeveralSets : (count : ℕ) → Difference
  SetNotOffered : (number : ProposalNumber) → Difference
  Protocols : Difference
  Order : Difference
  SeveralTransforms : (protocol count : ℕ) → Difference
  TransformNotOffered : (protocol : ℕ) (number : TransformNumber) → Difference
  Id : (protocol : ℕ) (number : TransformNumber) (found offered : ℕ) → Difference
  Attributes : (protocol : ℕ) (number : TransformNumber) → Difference
  OtherSet : (found chosen : ProposalNumber) → Difference
  OtherTransform : (protocol : ℕ) (found chosen : TransformNumber) → Difference
  NothingChosen : Difference

abbrev pub difference_told : (answer : Option Found) → Difference
difference_told None = Nothing
difference_told (Some (found.OfferRefused refusal)) = OfferRefused (number refusal)
difference_told (Some (found.BookRefused refusal)) = BookRefused (number refusal)
difference_told (Some (found.ReplyRefused refusal)) = ReplyRefused (number refusal)
difference_told (Some (found.SeveralSets count)) = SeveralSets count
difference_told (Some (found.SetNotOffered number)) = SetNotOffered number
difference_told (Some found.Protocols) = Protocols
difference_told (Some found.Order) = Order
difference_told (Some (found.SeveralTransforms protocol count)) = SeveralTransforms protocol count
difference_told (Some (found.TransformNotOffered protocol number)) = TransformNotOffered protocol number
difference_told (Some (found.Id protocol number found offered)) = Id protocol number found offered
difference_told (Some (found.Attributes protocol number)) = Attributes protocol number
difference_told (Some (found.OtherSet found chosen)) = OtherSet found chosen
difference_told (Some (found.OtherTransform protocol found chosen)) = OtherTransform protocol found chosen
difference_told (Some found.NothingChosen) = NothingChosen

pub data Lawfulness : Type 0 where
  Refused : (number : ℕ) → Lawfulness
  Lawful : Lawfulness

abbrev pub lawful_told : {Passed : Type 0} (answer : Result Passed Refusal) → Lawfulness
lawful_told (Ok passed) = Lawful
lawful_told (Err refusal) = Refused (number refusal)

-- the bytes of a book, none where there is no book
abbrev pub book_bytes : (book : Option (Bor Bytes)) → Bytes
book_bytes None = []
book_bytes (Some book) = book.now

-- what is called with two proposals answers with the difference that is told of them
abbrev pub Tells : (told : Bytes → Bytes → Difference) (answers : (p q : Bor Bytes) (difference : Option Found) → Type 0) → Type 0
Tells told answers = (p q : Bor Bytes) (difference : Option Found) → answers p q difference → difference_told difference ≡ told p.now q.now
