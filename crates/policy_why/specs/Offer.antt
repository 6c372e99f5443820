-- What is told of an offer: whether there is something to say of it, and so its exchange and how many payloads it has.
use Rattle.std.specs.Prelude.{ℕ, Result, Ok, Err}
use Rattle.refusal.specs.declared.Refusal.{Refusal}
use Rattle.refusal.specs.Numbers.{number}
use Rattle.message_chain.specs.declared.Message.{Message as Found}

pub data Offer : Type 0 where
  Refused : (number : ℕ) → Offer
  Readable : (exchange count : ℕ) → Offer

abbrev pub offer_told : (answer : Result Found Refusal) → Offer
offer_told (Ok found) = Readable found.exchange found.count
offer_told (Err refusal) = Refused (number refusal)
