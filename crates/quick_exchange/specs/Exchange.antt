-- The exchange of two ends, demand three: two ends of one quick mode that start fresh with the same cookies, and what a network and a
-- caller may do between them. Everything an end does here is `begun`, `delivered` and `ticked`, the definitions that its contracts cite.
use Rattle.std.specs.Prelude.{ℕ, ◌<◌, ◌≤◌, ◌≡◌, List, [], ◌∷◌, Bool, true, length, take, drop}
use Rattle.wire_read.specs.Wire.{Bytes}
use Rattle.wire_read.specs.Answer.{refused}
use Rattle.sa_fields.specs.Fields.{proposal_number, protocol, transform_count, transform_number}
use Rattle.sa_items.specs.Items.{proposal, proposal_count, transform, transform_numbered}
use Rattle.sa_sets.specs.Sets.{set, set_count, set_numbered}
use Rattle.sa_fields.specs.declared.ProposalNumber.{ProposalNumber}
use Rattle.sa_fields.specs.declared.TransformNumber.{TransformNumber}
use Rattle.policy_choice.specs.Choice.{body_at, choose_from}
use Rattle.policy_lines.specs.declared.LineNumber.{LineNumber}
use Rattle.policy_choice.specs.declared.Transforms.{Transforms}
use Rattle.policy_choice.specs.declared.Transforms.TheVariants.{One, Two}
use Rattle.policy_choice.specs.Choice.{Chosen}
use Rattle.quick_write.specs.Messages.{book_of, nonce_of, offer_of, message_one, message_two, message_three}
use Rattle.quick_shape.specs.Shapes.{alike, nonce}
use Rattle.quick_end.specs.Fresh.{fresh}
use Rattle.quick_step.specs.Steps.{After, kept, step_answer}
use Rattle.quick_begin.specs.Begin.{begun}
use Rattle.quick_tick.specs.Tick.{ticked}
use Rattle.quick_deliver.specs.Deliver.{delivered}
use Rattle.quick_end.specs.declared.Role.{Role}
use Rattle.quick_end.specs.declared.Role.TheVariants.{Initiator, Responder}
use Rattle.quick_end.specs.declared.State.{State}
use Rattle.quick_end.specs.declared.State.TheVariants.{GivenUp}
use Rattle.quick_end.specs.declared.Own.{Own}
use Rattle.quick_end.specs.declared.Spis.{Spis}
use Rattle.quick_end.specs.declared.Spis.TheVariants.{Alone, Both}
use Rattle.quick_end.specs.declared.Agreed.{Agreed}
use Rattle.quick_end.specs.declared.End.{End}
use Rattle.quick_step.specs.Steps.{StepAnswer}
use Rattle.quick_step.specs.Steps.{Send, Nothing, Refused}

-- one end between two calls: "the record its last call left", and its kept buffers as that call left them
pub record Party : Type 0 where
  pub end : End
  pub sent : Bytes
  pub got : Bytes

-- a call of an end, with any output buffer: begin with any message ID and identities, delivery of any bytes with hash yes or no, tick
pub data Call : Type 0 where
  begin : (id : ℕ) (first second output : Bytes) → Call
  deliver : (m : Bytes) (holds : Bool) (output : Bytes) → Call
  tick : (output : Bytes) → Call

unfoldable pub called : (p : Party) (call : Call) → After
called p (begin id first second output) = begun p.end id first second p.sent p.got output
called p (deliver m holds output) = delivered p.end holds m p.sent p.got output
called p (tick output) = ticked p.end p.sent p.got output

-- "Each call of an end gets the record its last call left and is lent its kept buffers, nothing else writes either"
abbrev pub left : (after : After) → Party
left after = record { end = after.step.end; sent = after.sent; got = after.got }

-- a call that answers with a message to send has written it: the front of the output it leaves
abbrev pub said : (answer : StepAnswer) (output : Bytes) (log : List Bytes) → List Bytes
said (Send size) output log = take size output ∷ log
said Nothing output log = log
said (Refused number) output log = log

abbrev pub logged : (after : After) (log : List Bytes) → List Bytes
logged after log = said after.step.answer after.output log

-- the two ends, and what each has written so far, the newest first
pub record World : Type 0 where
  pub initiator : Party
  pub responder : Party
  pub from_initiator : List Bytes
  pub from_responder : List Bytes

-- an event is a call of one of the two, the initiator being the first
pub data Event : Type 0 where
  at_first : (call : Call) → Event
  at_second : (call : Call) → Event

abbrev pub step : (w : World) (event : Event) → World
step w (at_first c) = record {
  initiator = left (called w.initiator c);
  responder = w.responder;
  from_initiator = logged (called w.initiator c) w.from_initiator;
  from_responder = w.from_responder;
}
step w (at_second c) = record {
  initiator = w.initiator;
  responder = left (called w.responder c);
  from_initiator = w.from_initiator;
  from_responder = logged (called w.responder c) w.from_responder;
}

-- m is one of these messages, apart from the 32 hash bytes
pub data Heard (m : Bytes) : List Bytes → Type 0 where
  here : {n : Bytes} {log : List Bytes} → alike m n ≡ true → Heard m (n ∷ log)
  there : {n : Bytes} {log : List Bytes} → Heard m log → Heard m (n ∷ log)

-- "an end is told that a hash holds only for a message the other end wrote in this exchange"; a message ID has 32 bits
abbrev pub Allowed : (other : List Bytes) (call : Call) → Type 0
Allowed other (begin id first second output) = id < 4294967296
Allowed other (deliver m holds output) = holds ≡ true → Heard m other
Allowed other (tick output) = Unit {0}

abbrev pub Fair : (w : World) (event : Event) → Type 0
Fair w (at_first c) = Allowed w.from_responder c
Fair w (at_second c) = Allowed w.from_initiator c

-- "The network may lose, repeat or reorder messages": any events in any order
pub data Run (w : World) : World → Type 0 where
  rest : Run w w
  goes : {u : World} → Run w u → (event : Event) → Fair u event → Run w (step u event)

-- an end that `fresh` has made, of numbers as wide as its types have them
pub record FreshEnd (role : Role) (icookie rcookie : ℕ) (end : End) : Type 0 where
  pub book : Bytes
  pub ah : ℕ
  pub esp : ℕ
  pub nonce : Bytes
  pub ah-fits : ah < 4294967296
  pub esp-fits : esp < 4294967296
  pub made : fresh role icookie rcookie book ah esp nonce ≡ record { number = 0; end = end }

-- "the initiator and the responder of one quick mode that start fresh with the same cookies": the kept buffers are anything
pub record Fresh (w : World) : Type 0 where
  pub icookie : ℕ
  pub rcookie : ℕ
  pub icookie-fits : icookie < 18446744073709551616
  pub rcookie-fits : rcookie < 18446744073709551616
  pub first : FreshEnd Initiator icookie rcookie w.initiator.end
  pub second : FreshEnd Responder icookie rcookie w.responder.end
  pub none_first : w.from_initiator ≡ []
  pub none-second : w.from_responder ≡ []

-- ---- what the theorems speak of

abbrev pub state_of : (p : Party) → State
state_of p = p.end.progress.state

-- the messages that an end has kept, and the values that it has agreed to
abbrev pub sent_of : (p : Party) → Bytes
sent_of p = kept p.end.progress.sentsize p.sent

abbrev pub got_of : (p : Party) → Bytes
got_of p = kept p.end.progress.gotsize p.got

abbrev pub agreed_of : (p : Party) → Agreed
agreed_of p = p.end.progress.agreed

-- "the same proposal set, transforms, SPIs and nonces", as a caller asks for them: of the record, and by `nonce` of the two messages kept.
-- The initiator's kept message is its third, so its own nonce is asked of its record.
pub record Same (i r : Party) : Type 0 where
  pub same_set : (agreed_of r).set ≡ (agreed_of i).set
  pub same-transforms : (agreed_of r).transforms ≡ (agreed_of i).transforms
  pub same-initiator : (agreed_of r).initiator ≡ (agreed_of i).initiator
  pub same-responder : (agreed_of r).responder ≡ (agreed_of i).responder
  pub initiator-nonce : nonce Initiator (got_of r) (sent_of r) ≡ nonce_of i.end.own
  pub responder-nonce : nonce Responder (got_of r) (sent_of r) ≡ nonce Responder (sent_of i) (got_of i)
  pub responder-own : nonce Responder (got_of r) (sent_of r) ≡ nonce_of r.end.own

-- "buffers full size": the three that a call is lent
pub record FullSize (p : Party) (output : Bytes) : Type 0 where
  pub in_sent : 2048 ≤ length p.sent
  pub in_got : 2048 ≤ length p.got
  pub in_output : 2048 ≤ length output

-- ---- what was written

-- all of it is m, and there is one
pub data Only (m : Bytes) : List Bytes → Type 0 where
  one : Only m (m ∷ [])
  more : {log : List Bytes} → Only m log → Only m (m ∷ log)

-- first only m, then only n, at least one of each
pub data Then (m n : Bytes) : List Bytes → Type 0 where
  turn : {log : List Bytes} → Only m log → Then m n (n ∷ log)
  next : {log : List Bytes} → Then m n log → Then m n (n ∷ log)

-- ---- the story of a quick mode: begin, and the arrival of three messages

-- "A begin that isn't refused", at any moment
pub record Beginning (w : World) : Type 0 where
  pub moment : World
  pub run : Run w moment
  pub id : ℕ
  pub first : Bytes
  pub second : Bytes
  pub output : Bytes
  pub narrow : id < 4294967296
  pub unrefused : (number : ℕ) → step_answer (called moment.initiator (begin id first second output)).step.answer ≡ refused number → ⊥

abbrev pub begin_call : {w : World} (b : Beginning w) → Call
begin_call b = begin b.id b.first b.second b.output

abbrev pub after_begin : {w : World} (b : Beginning w) → World
after_begin b = step b.moment (at_first (begin_call b))

-- "the responder's policy suits the offer" that message m has
pub record Chooses (own : Own) (m : Bytes) : Type 0 where
  pub number : ProposalNumber
  pub line : LineNumber
  pub transforms : Transforms
  pub chosen : choose_from 32 (book_of own) (body_at 1 m) ≡ Chosen number line transforms

-- the three messages: what the ends were given, what begin was called with, and what the responder's policy chooses determine them
abbrev pub one_of : {w : World} (b : Beginning w) → Bytes
one_of {w} b = message_one w.initiator.end.own b.id b.first b.second

abbrev pub two_of : {w : World} (b : Beginning w) (s : Chooses w.responder.end.own (one_of b)) → Bytes
two_of {w} b s = message_two w.responder.end.own b.id s.transforms (set_numbered s.number (body_at 1 (one_of b))) b.first b.second

abbrev pub three_of : {w : World} (b : Beginning w) → Bytes
three_of {w} b = message_three w.initiator.end.own b.id

-- message m arrives at p, equal apart from the hash: "hashes are good, buffers full size", and p has not given up
pub record Arrives (m : Bytes) (p : Party) : Type 0 where
  pub bytes : Bytes
  pub output : Bytes
  pub equals : alike bytes m ≡ true
  pub full : FullSize p output
  pub up : state_of p ≡ GivenUp → ⊥

abbrev pub delivery : {m : Bytes} {p : Party} (arrival : Arrives m p) → Call
delivery arrival = deliver arrival.bytes true arrival.output

-- ---- the same content, and the SPIs that were given

-- the set of message two, as the initiator keeps it
abbrev pub taken_set : (i : Party) → Bytes
taken_set i = set 0 (body_at 1 (got_of i))

-- the set of the offer that the responder agreed to, in message one as it keeps it
abbrev pub chosen_set : (r : Party) → Bytes
chosen_set r = set_numbered (agreed_of r).set (body_at 1 (got_of r))

-- a proposal of message two beside the one of the offer: number and protocol, and one transform, which is the offered one of this number,
-- byte for byte, so with its ID and every attribute
pub record SameProposal (number : TransformNumber) (taken chosen : Bytes) : Type 0 where
  pub same_number : proposal_number taken ≡ proposal_number chosen
  pub same-protocol : protocol taken ≡ protocol chosen
  pub one-transform : transform_count taken ≡ 1
  pub its_number : transform_number (transform 0 taken) ≡ number
  pub same-transform : transform 0 taken ≡ transform_numbered number chosen

-- so in each proposal of the two sets, which have as many as there are transforms
abbrev pub SameProposals : (transforms : Transforms) (taken chosen : Bytes) → Type 0
SameProposals (One t) taken chosen = (proposal_count taken ≡ 1) × (proposal_count chosen ≡ 1) × SameProposal t (proposal 0 taken) (proposal 0 chosen)
SameProposals (Two t u) taken chosen =
    (proposal_count taken ≡ 2) × (proposal_count chosen ≡ 2) ×
    SameProposal t (proposal 0 taken) (proposal 0 chosen) × SameProposal u (proposal 1 taken) (proposal 1 chosen)

-- what the initiator took from the message two that the responder wrote is what the responder chose, by its own policy, from the offer that
-- the initiator wrote
pub record SameContent (i r : Party) : Type 0 where
  pub message-one : drop 8 (body_at 1 (got_of r)) ≡ offer_of i.end.own
  pub chooses : Chooses r.end.own (got_of r)
  pub chosen-set : (agreed_of r).set ≡ chooses.number
  pub chosen-transforms : (agreed_of r).transforms ≡ chooses.transforms
  pub message-two : alike (got_of i) (sent_of r) ≡ true
  pub one_set : set_count (body_at 1 (got_of i)) ≡ 1
  pub proposals : SameProposals (agreed_of r).transforms (taken_set i) (chosen_set r)

-- the SPIs that an end was given, for the protocols of set s in its order: ESP alone, or "AH before ESP"
pub data GivenFor (ah esp : ℕ) (s : Bytes) : Spis → Type 0 where
  alone : proposal_count s ≡ 1 → protocol (proposal 0 s) ≡ 3 → GivenFor ah esp s (Alone esp)
  both : proposal_count s ≡ 2 → protocol (proposal 0 s) ≡ 2 → protocol (proposal 1 s) ≡ 3 → GivenFor ah esp s (Both ah esp)
