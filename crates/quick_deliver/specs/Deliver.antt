-- A delivery, document 01, "Quick mode ends": what it answers, and the record and the lent buffers after it.
use Rattle.std.specs.Prelude.{ℕ, [], Bool, not, ◌||◌, length, eqb}
use Rattle.wire_read.specs.Wire.{Bytes, Code}
use Rattle.wire_write.specs.Put.{paste}
use Rattle.wire_read.specs.Tests.{if◌then◌otherwise◌}
use Rattle.message_header.specs.Header.{message_id_of}
use Rattle.message_chain.specs.Message.{message}
use Rattle.sa_sets.specs.Sets.{set_numbered}
use Rattle.sa_fields.specs.declared.ProposalNumber.{ProposalNumber}
use Rattle.policy_choice.specs.Choice.{body_at, choose_from}
use Rattle.policy_choice.specs.declared.Transforms.{Transforms}
use Rattle.policy_choice.specs.Choice.{Choice}
use Rattle.policy_choice.specs.Choice as choices
use Rattle.quick_write.specs.Messages.{book_of, message_two, message_three}
use Rattle.quick_end.specs.Fresh.{is_initiator, is_given_up}
use Rattle.quick_shape.specs.Shapes.{is_longer, alike, shape_of}
use Rattle.quick_check.specs.Checks.{read_code}
use Rattle.quick_taken.specs.Taken.{taken_code, agreed_two}
use Rattle.quick_agreed.specs.Agreed.{spis_of, own_spis}
use Rattle.quick_step.specs.Steps.{After, small, kept, with_state, refusing, nothing, repeating, sending}
use Rattle.quick_end.specs.declared.State.{State}
use Rattle.quick_end.specs.declared.State.TheVariants.{Idle, Sent, Half, Open, GivenUp}
use Rattle.quick_end.specs.declared.Own.{Own}
use Rattle.quick_end.specs.declared.Agreed.{Agreed}
use Rattle.quick_end.specs.declared.End.{End}

-- "8192, 23, 8196", and then the rest; holds is what the caller says of the hash
abbrev pub early_code : (tight holds given_up : Bool) (rest : Code) → Code
early_code tight holds given_up rest =
    if tight then 8192
    otherwise if not holds then 23
    otherwise if given_up then 8196
    otherwise rest

-- "8192, 23, 8196, reading, .."
unfoldable pub delivery_code : (end : End) (holds : Bool) (m : Bytes) (tight : Bool) → Code
delivery_code end holds m tight =
    early_code tight holds (is_given_up end.progress.state) (read_code end.own end.progress.state end.progress.id m (message m))

-- the identities of a message, to be repeated: its payloads 3 and 4, no bytes where it has none
unfoldable pub identity_at : (k : ℕ) (m : Bytes) → Bytes
identity_at k m = if eqb (shape_of m) 5 then body_at k m otherwise []

-- the message 2 that answers message 1, its message ID taken and its identities repeated; s is the chosen set
abbrev pub message_two_to : (m : Bytes) (own : Own) (transforms : Transforms) (s : Bytes) → Bytes
message_two_to m own transforms s = message_two own (message_id_of m) transforms s (identity_at 3 m) (identity_at 4 m)

-- what message 1 agrees on once a set was chosen
abbrev pub agreed_one : (own : Own) (number : ProposalNumber) (transforms : Transforms) (s : Bytes) → Agreed
agreed_one own number transforms s = record { set = number; transforms = transforms; initiator = spis_of s; responder = own_spis own.ah own.esp s }

module _ (end : End) (m sent got output : Bytes) where
  -- the messages that are kept
  abbrev kept_sent : Bytes
  kept_sent = kept end.progress.sentsize sent

  abbrev kept_got : Bytes
  kept_got = kept end.progress.gotsize got

  -- "Then Open; writes message 3"; got takes message 2
  unfoldable pub opened : After
  opened =
      sending end sent got output (message_three end.own end.progress.id)
      (record {
        state = Open;
        sends = end.progress.sends;
        id = end.progress.id;
        sentsize = length (message_three end.own end.progress.id);
        gotsize = length m;
        agreed = agreed_two kept_sent m;
      })
      (paste got 0 m)

  -- "Initiator Sent, message 2: .. Open: an equal message 2 brings message 3 again. All else 8195"
  unfoldable pub at_initiator : (state : State) → After
  at_initiator Sent =
      if not (is_longer (shape_of m)) then refusing end sent got output 8195
      otherwise if not (eqb (taken_code (shape_of m) kept_sent m) 0) then refusing end sent got output (taken_code (shape_of m) kept_sent m)
      otherwise opened
  at_initiator Open =
      if alike m kept_got then repeating end sent got output end.progress
      otherwise refusing end sent got output 8195
  at_initiator Idle = refusing end sent got output 8195
  at_initiator Half = refusing end sent got output 8195
  at_initiator GivenUp = refusing end sent got output 8195

  -- "Half and message 2 (identities repeated), one send"; got takes message 1, whose message ID is taken
  unfoldable pub halfway : (number : ProposalNumber) (transforms : Transforms) (s : Bytes) → After
  halfway number transforms s =
      sending end sent got output (message_two_to m end.own transforms s)
      (record {
        state = Half;
        sends = 1;
        id = message_id_of m;
        sentsize = length (message_two_to m end.own transforms s);
        gotsize = length m;
        agreed = agreed_one end.own number transforms s;
      })
      (paste got 0 m)

  unfoldable pub after_choice : (chosen : Choice) → After
  after_choice (choices.Refused number) = refusing end sent got output number
  after_choice (choices.Chosen number line transforms) = halfway number transforms (set_numbered number (body_at 1 m))

  -- "Responder Idle, message 1: .. Half: an equal message 1 brings message 2 again; message 3 brings Open. Open: either brings nothing. All
  -- else 8195"
  unfoldable pub at_responder : (state : State) → After
  at_responder Idle =
      if not (is_longer (shape_of m)) then refusing end sent got output 8195
      otherwise after_choice (choose_from 32 (book_of end.own) (body_at 1 m))
  at_responder Half =
      if alike m kept_got then repeating end sent got output end.progress
      otherwise if eqb (shape_of m) 1 then nothing end sent got output (with_state Open end.progress)
      otherwise refusing end sent got output 8195
  at_responder Open =
      if alike m kept_got || eqb (shape_of m) 1 then nothing end sent got output end.progress
      otherwise refusing end sent got output 8195
  at_responder Sent = refusing end sent got output 8195
  at_responder GivenUp = refusing end sent got output 8195

unfoldable pub delivered : (end : End) (holds : Bool) (m sent got output : Bytes) → After
delivered end holds m sent got output =
    if not (eqb (delivery_code end holds m (small sent got output)) 0)
    then refusing end sent got output (delivery_code end holds m (small sent got output))
    otherwise if is_initiator end.own.role then at_initiator end m sent got output end.progress.state
    otherwise at_responder end m sent got output end.progress.state
