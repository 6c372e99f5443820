-- What a responder writes, whatever messages it is delivered and from whomever: calls of one responder, and a message that answers another.
use Rattle.std.specs.Prelude.{ℕ, ◌<◌, ◌≡◌, List, [], ◌∷◌, length, get_or, drop}
use Rattle.wire_read.specs.Wire.{Bytes}
use Rattle.sa_sets.specs.Sets.{set_numbered}
use Rattle.message_chain.specs.Message.{message}
use Rattle.message_chain.specs.Message.{Read}
use Rattle.policy_choice.specs.Choice.{body_at, sa_from}
use Rattle.policy_reply.specs.Reply.{set_reply, sa_of}
use Rattle.quick_end.specs.declared.Own.{Own}
use Rattle.quick_exchange.specs.Exchange.{Party, Call, begin, deliver, tick, called, left, logged, Chooses}

-- bytes as the code has them
abbrev pub Octets : (m : Bytes) → Type 0
Octets m = (i : ℕ) → get_or m i 0 < 256

-- what is delivered is of bytes; nothing is asked of the other calls
abbrev pub Narrow : (call : Call) → Type 0
Narrow (begin id first second output) = Unit {0}
Narrow (deliver m holds output) = Octets m
Narrow (tick output) = Unit {0}

-- calls of a responder, one after the other, from r on: where it stands then, and what it has written, the newest first. Any bytes are
-- delivered, and the caller says of each hash what it likes
pub data Calls (r : Party) : Party → List Bytes → Type 0 where
  none : Calls r r []
  on : {p : Party} {log : List Bytes} → Calls r p log → (call : Call) → Narrow call → Calls r (left (called p call)) (logged (called p call) log)

-- n answers message m, as this responder chooses by its own book: both read, with so many payloads offered and replied; the SA payload of m
-- is its payload 1, and that of n is the reply
pub record AnswersOne (own : Own) (m n : Bytes) : Type 0 where
  pub offered : ℕ
  pub reads-offer : message m ≡ Read 32 offered
  pub its_offer : sa_from offered 0 m ≡ body_at 1 m
  pub some-offer : length (body_at 1 m) ≡ 0 → ⊥
  pub chooses : Chooses own m
  pub replied : ℕ
  pub reads_reply : message n ≡ Read 32 replied
  pub its_reply : sa_from replied 0 n ≡ drop 4 (sa_of 10 (set_reply own.ah own.esp chooses.transforms (set_numbered chooses.number (body_at 1 m))))
  pub some_reply : length (sa_from replied 0 n) ≡ 0 → ⊥

-- every message of a list has P
pub data All (P : Bytes → Type 0) : List Bytes → Type 0 where
  none : All P []
  also : {m : Bytes} {log : List Bytes} → P m → All P log → All P (m ∷ log)
