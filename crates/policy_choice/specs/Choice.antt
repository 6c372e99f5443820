-- The choice, document 01: "Chosen: first set, then first line, then lowest transform in each proposal. Checks: book, message, no SA
-- payload (16), then 14."
use Rattle.std.specs.Prelude.{ℕ, zero, suc, Result, Ok, Err, ◌+◌, ◌-◌, ◌<◌, [], ◌∷◌, length, take, drop, eqb}
use Rattle.wire_read.specs.Wire.{Bytes}
use Rattle.wire_read.specs.Tests.{if◌then◌otherwise◌}
use Rattle.wire_read.specs.Answer.{Answer, done, refused}
use Rattle.message_chain.specs.Message.{message, payload_at}
use Rattle.message_chain.specs.Message.{Message}
use Rattle.message_chain.specs.Message as read
use Rattle.sa_fields.specs.Fields.{proposal_number, transform_number}
use Rattle.sa_sets.specs.Sets.{set, set_count}
use Rattle.sa_items.specs.Items.{proposal, proposal_count, transform}
use Rattle.sa_fields.specs.declared.ProposalNumber.{ProposalNumber}
use Rattle.sa_fields.specs.declared.TransformNumber.{TransformNumber}
use Rattle.policy_lines.specs.Lines.{place, line_at, main_count, quick_count}
use Rattle.policy_lines.specs.declared.LineNumber.{LineNumber}
use Rattle.policy_book.specs.Book.{book_read}
use Rattle.policy_book.specs.Book.{Book}
use Rattle.policy_book.specs.Book as books
use Rattle.policy_suits.specs.Suits.{lowest, set_suits}
use Rattle.policy_suiting.specs.Suiting.{Suits}
use Rattle.policy_choice.specs.declared.Transforms.{Transforms}
use Rattle.policy_choice.specs.declared.Transforms.TheVariants.{One, Two}
use Rattle.policy_choice.specs.declared.Choice.{Choice as Found}
use Rattle.refusal.specs.declared.Refusal.{Refusal}
use Rattle.refusal.specs.Numbers.{number}

-- what is answered: the set, the line and the transforms; and what the code says so by
pub data Choice : Type 0 where
  Refused : (number : ℕ) → Choice
  Chosen : (set : ProposalNumber) (line : LineNumber) (transforms : Transforms) → Choice

abbrev pub choice_by : {R : Type 0} (numbered : R → ℕ) (answer : Result Found R) → Choice
choice_by numbered (Ok found) = Chosen found.set found.line found.transforms
choice_by numbered (Err refused) = Refused (numbered refused)

abbrev pub choice_told : (answer : Result Found Refusal) → Choice
choice_told answer = choice_by number answer

-- how many lines the book has for an exchange
unfoldable pub line_count : (exchange : ℕ) (book : Bytes) → ℕ
line_count exchange book = if eqb exchange 2 then main_count book otherwise quick_count book

-- "first line" that the set s suits, of the n lines behind the last that was asked, whose number is the place of the next; line 0 where
-- there is none
unfoldable pub line_from : (n : ℕ) (last : LineNumber) (exchange : ℕ) (book s : Bytes) → LineNumber
line_from zero last exchange book s = record { 0 = 0 }
line_from (suc n) last exchange book s =
    if set_suits exchange last.0 book s then line_at last.0
    otherwise line_from n (line_at last.0) exchange book s

unfoldable pub first_line : (exchange : ℕ) (book s : Bytes) → LineNumber
first_line exchange book s = line_from (line_count exchange book) (record { 0 = 0 }) exchange book s

-- the number of transform k of a proposal, counted from 1, and of the lowest that suits line i
unfoldable pub number_of : (k : ℕ) (p : Bytes) → TransformNumber
number_of k p = transform_number (transform (k - 1) p)

abbrev pub lowest_number : (exchange i : ℕ) (book p : Bytes) → TransformNumber
lowest_number exchange i book p = number_of (lowest exchange i book p) p

-- "then lowest transform in each proposal" of the set s, in the offer's order
unfoldable pub transforms_of : (exchange i : ℕ) (book s : Bytes) → Transforms
transforms_of exchange i book s =
    if eqb (proposal_count s) 1 then One (lowest_number exchange i book (proposal 0 s))
    otherwise Two (lowest_number exchange i book (proposal 0 s)) (lowest_number exchange i book (proposal 1 s))

-- what is answered where the set s is chosen by this line
unfoldable pub chosen : (exchange : ℕ) (line : LineNumber) (book s : Bytes) → Choice
chosen exchange line book s = Chosen (proposal_number (proposal 0 s)) line (transforms_of exchange (place line) book s)

-- "first set": of the n from k on, "then 14"
unfoldable pub set_from : (n k exchange : ℕ) (book body : Bytes) → Choice
set_from zero k exchange book body = Refused 14
set_from (suc n) k exchange book body =
    if eqb (first_line exchange book (set k body)).0 0 then set_from n (k + 1) exchange book body
    otherwise chosen exchange (first_line exchange book (set k body)) book (set k body)

unfoldable pub choose_from : (exchange : ℕ) (book body : Bytes) → Choice
choose_from exchange book body = set_from (set_count body) 0 exchange book body

-- the body of payload k, counted from 0
unfoldable pub body_at : (k : ℕ) (m : Bytes) → Bytes
body_at k m = drop 4 (take (payload_at k m).length (drop (payload_at k m).start m))

-- the body of the first SA payload among the n payloads from k on; no bytes where there is none
unfoldable pub sa_from : (n k : ℕ) (m : Bytes) → Bytes
sa_from zero k m = []
sa_from (suc n) k m = if eqb (payload_at k m).payloadtype 1 then body_at k m otherwise sa_from n (k + 1) m

-- "message, no SA payload (16), then 14"
unfoldable pub message_choice : (book m : Bytes) (read : Message) → Choice
message_choice book m (read.Refused number) = Refused number
message_choice book m (read.Read exchange count) =
    if eqb (length (sa_from count 0 m)) 0 then Refused 16
    otherwise choose_from exchange book (sa_from count 0 m)

unfoldable pub book_choice : (book m : Bytes) (read : Book) → Choice
book_choice book m (books.Refused number) = Refused number
book_choice book m (books.Lawful main quick) = message_choice book m (message m)

unfoldable pub choice : (book m : Bytes) → Choice
choice book m = book_choice book m (book_read book)

-- the paper's number and values for each case
unfoldable pub choice_answer : (chosen : Choice) → Answer
choice_answer (Refused number) = refused number
choice_answer (Chosen number line (One t)) = done (number.0 ∷ line.0 ∷ t.0 ∷ [])
choice_answer (Chosen number line (Two t u)) = done (number.0 ∷ line.0 ∷ t.0 ∷ u.0 ∷ [])

-- "no offered set suits any policy line", in the words of Suiting.antt
abbrev pub NoneSuits : (exchange : ℕ) (book body : Bytes) → Type 0
NoneSuits exchange book body = (k i : ℕ) → k < set_count body → i < line_count exchange book → Suits exchange i book (set k body) → ⊥
