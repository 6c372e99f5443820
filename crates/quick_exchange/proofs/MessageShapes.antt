-- What the laws of the byte format speak of: an own that `fresh` lets pass, and what is read of each message.
use Prim.Native.Nat.{ℕ, ◌<◌, ◌≤◌}
use mathlib.Core.Path.{◌≡◌}
use mathlib.Core.Logic.{◌⊎◌}
use mathlib.Core.List.{List, [], ◌++◌}
use mathlib.Core.Bool.{true}
use lib.ListN.{length}
use lib.Dec.{eqb}
use Rattle.wire_read.specs.Wire.{number_at}
use Rattle.wire_write.specs.Put.{bytes_of}
use Rattle.wire_read.specs.Tests.{if◌then◌otherwise◌}
use Rattle.identity.specs.Identity.{identity_code}
use Rattle.message_header.specs.Header.{flags_of}
use Rattle.message_chain.specs.Message.{message}
use Rattle.message_chain.specs.Message.{Read}
use Rattle.policy_book.specs.Book.{book_in_front}
use Rattle.policy_lines.specs.Lines.{book_size}
use Rattle.policy_choice.specs.Choice.{body_at, choose_from}
use Rattle.quick_write.specs.Messages.{book_of, nonce_of, lines, message_one, message_two}
use Rattle.quick_shape.specs.Shapes.{shape_of, nonce_in, alike}
use Rattle.quick_deliver.specs.Deliver.{identity_at}
use Rattle.quick_end.specs.declared.Own.{Own}
use Rattle.sa_sets.specs.Sets.{set_numbered}
use Rattle.sa_fields.specs.declared.ProposalNumber.{ProposalNumber}
use Rattle.policy_lines.specs.declared.LineNumber.{LineNumber}
use Rattle.policy_choice.specs.declared.Transforms.{Transforms}
use Rattle.policy_choice.specs.Choice.{Chosen}

-- an own that `fresh` lets pass, of numbers as wide as the record has them
pub record Fit (own : Own) : Type 0 where
  pub icookie : (own.icookie ≡ 0 → ⊥) × (own.icookie < 18446744073709551616)
  pub rcookie : (own.rcookie ≡ 0 → ⊥) × (own.rcookie < 18446744073709551616)
  pub book : (book_in_front (book_of own) ≡ true) × (book_size (book_of own) ≡ length (book_of own))
  pub ah : (256 ≤ own.ah) × (own.ah < 4294967296)
  pub esp : (256 ≤ own.esp) × (own.esp < 4294967296)
  pub nonce : (8 ≤ length (nonce_of own)) × (length (nonce_of own) ≤ 256)

-- "no or two identity bodies"
abbrev pub Identities : List ℕ → List ℕ → Type 0
Identities first second = ((first ≡ []) × (second ≡ [])) ⊎ ((identity_code 32 first ≡ 0) × (identity_code 32 second ≡ 0))

-- how many payloads a message of the longer shape has
unfoldable pub payloads_with : List ℕ → ℕ
payloads_with first = if eqb (length first) 0 then 3 otherwise 5

-- the body of an SA payload with these proposals
abbrev pub sa_body : List ℕ → List ℕ
sa_body proposals = bytes_of 4 1 ++ (bytes_of 4 1 ++ proposals)

-- what every message of an exchange has: the cookies, flag 1, its message ID, and no more bytes than a buffer of 2,048 takes
pub record Framed (own : Own) (id : ℕ) (m : List ℕ) : Type 0 where
  pub short : length m ≤ 2048
  pub flag : flags_of m ≡ 1
  pub icookie : number_at 8 m 0 ≡ own.icookie
  pub rcookie : number_at 8 m 8 ≡ own.rcookie
  pub its_id : number_at 4 m 20 ≡ id

-- m is read as a message of the longer shape, with these parts
pub record Longer (own : Own) (id : ℕ) (proposals first second m : List ℕ) : Type 0 where
  pub framed : Framed own id m
  pub reads : message m ≡ Read 32 (payloads_with first)
  pub shape : shape_of m ≡ payloads_with first
  pub long : 76 < length m
  pub sa : body_at 1 m ≡ sa_body proposals
  pub nonce : nonce_in m ≡ nonce_of own
  pub identity_one : identity_at 3 m ≡ first
  pub identity_two : identity_at 4 m ≡ second

-- m is read as message 3
pub record Third (own : Own) (id : ℕ) (m : List ℕ) : Type 0 where
  pub framed : Framed own id m
  pub reads : message m ≡ Read 32 1
  pub shape : shape_of m ≡ 1
  pub long : length m ≡ 76

-- the responder's answer: message 1 was g, which the book of two chose from
pub record Answered (one two : Own) (id : ℕ) (first second g : List ℕ) (number : ProposalNumber) (line : LineNumber) (transforms : Transforms) : Type 0 where
  pub fit_one : Fit one
  pub some : 0 < lines (book_of one)
  pub some_id : 0 < id
  pub small-id : id < 4294967296
  pub identities : Identities first second
  pub fit_two : Fit two
  pub from : alike g (message_one one id first second) ≡ true
  pub chosen : choose_from 32 (book_of two) (body_at 1 g) ≡ Chosen number line transforms

abbrev pub reply_to : Own → List ℕ → ProposalNumber → Transforms → List ℕ
reply_to two g number transforms = message_two two (number_at 4 g 20) transforms (set_numbered number (body_at 1 g)) (identity_at 3 g) (identity_at 4 g)
