-- One exchange, computed: message one is lost and sent again by a tick, it arrives twice, the carrier fills in the hash bytes, and both
-- ends are open; or message three never arrives, and the responder gives up. So what promises say of an exchange is not said of nothing.
use Prim.Native.Nat.{ℕ}
use mathlib.Core.Path.{◌≡◌, refl, ap}
use mathlib.Core.List.{List, [], ◌∷◌}
use mathlib.Core.Bool.{true}
use native.Mathlib.Omega.{arith}
use lib.ListN.{length, replicate, length-replicate}
use Rattle.wire_read.specs.Answer.{refused}
use Rattle.wire_read.specs.Wire.{number_at, all_zero, equal}
use Rattle.wire_read.specs.Parts as parts
use Rattle.wire_read.proofs.Tests.{never}
use Rattle.wire_write.specs.Put.{bytes_of, head, headed, paste}
use Rattle.identity.specs.Identity as identities
use Rattle.sa_attribute.specs.Attributes as attributes
use Rattle.sa_coding.specs.Coding as coding
use Rattle.sa_transforms.specs.Transforms as transforms
use Rattle.sa_proposals.specs.Proposals as proposals
use Rattle.message_header.specs.Header as header
use Rattle.message_payload.specs.Payloads as payloads
use Rattle.message_chain.specs.Message as message
use Rattle.sa_fields.specs.Fields as fields
use Rattle.sa_items.specs.Items as items
use Rattle.sa_sets.specs.Sets as sets
use Rattle.policy_lines.specs.Lines as lines
use Rattle.policy_book.specs.Book as books
use Rattle.policy_suits.specs.Suits as suits
use Rattle.policy_choice.specs.Choice as choices
use Rattle.policy_reply.specs.Reply as replies
use Rattle.quick_write.specs.Messages as messages
use Rattle.quick_shape.specs.Shapes as shapes
use Rattle.quick_check.specs.Checks as checks
use Rattle.quick_taken.specs.Taken as taken
use Rattle.quick_agreed.specs.Agreed as agreed
use Rattle.quick_end.specs.Fresh as fresh
use Rattle.quick_step.specs.Steps as steps
use Rattle.quick_begin.specs.Begin as begins
use Rattle.quick_tick.specs.Tick as ticks
use Rattle.quick_deliver.specs.Deliver as delivers
use Rattle.policy_choice.specs.declared.Transforms.TheVariants.{Two}
use Rattle.policy_choice.specs.Choice.{Chosen}
use Rattle.quick_end.specs.declared.Role.TheVariants.{Initiator, Responder}
use Rattle.quick_end.specs.declared.Spis.TheVariants.{Both}
use Rattle.quick_end.specs.declared.Agreed.{Agreed}
use Rattle.quick_end.specs.declared.State.{State}
use Rattle.quick_end.specs.declared.State.TheVariants.{Idle, Sent, Half, Open, GivenUp}
use Rattle.quick_step.specs.Steps.{Send}
use Rattle.quick_exchange.specs.Exchange.{Party, begin, deliver, tick, called, World, Event, at_first, at_second, step, Heard, here, Run, rest, goes, Fresh, state_of, agreed_of, FullSize, Beginning, after_begin, Chooses, one_of, two_of, three_of, Arrives, delivery}
use Rattle.quick_exchange.proofs.Moves.{refused-is}

-- the initiator's policy book has two quick lines: ESP alone, and AH with ESP, mode 1 and 3,600 seconds; the responder's has the second alone
unfoldable pub book_one : List ℕ
book_one = 0 ∷ 2 ∷ 1 ∷ 1 ∷ 0 ∷ 0 ∷ 14 ∷ 16 ∷ 2 ∷ 1 ∷ 0 ∷ 0 ∷ 14 ∷ 16 ∷ []

unfoldable pub book_two : List ℕ
book_two = 0 ∷ 1 ∷ 2 ∷ 1 ∷ 0 ∷ 0 ∷ 14 ∷ 16 ∷ []

-- two identities, an address each
unfoldable pub first_identity : List ℕ
first_identity = 1 ∷ 0 ∷ 0 ∷ 0 ∷ 10 ∷ 0 ∷ 0 ∷ 1 ∷ []

unfoldable pub second_identity : List ℕ
second_identity = 1 ∷ 0 ∷ 0 ∷ 0 ∷ 10 ∷ 0 ∷ 0 ∷ 2 ∷ []

unfoldable pub nonce_one : List ℕ
nonce_one = 1 ∷ 2 ∷ 3 ∷ 4 ∷ 5 ∷ 6 ∷ 7 ∷ 8 ∷ []

unfoldable pub nonce_two : List ℕ
nonce_two = 11 ∷ 12 ∷ 13 ∷ 14 ∷ 15 ∷ 16 ∷ 17 ∷ 18 ∷ []

unfoldable pub buffer : List ℕ
buffer = replicate 2048 0

unfoldable pub start : World
start = record {
  initiator = record { end = (fresh.fresh Initiator 3 4 book_one 256 257 nonce_one).end; sent = buffer; got = buffer };
  responder = record { end = (fresh.fresh Responder 3 4 book_two 512 513 nonce_two).end; sent = buffer; got = buffer };
  from_initiator = [];
  from_responder = [];
}

-- the hash bytes as the carrier fills them in
unfoldable pub filled : List ℕ → List ℕ
filled m = paste m 32 (replicate 32 170)

-- what is agreed: set 2, transform 1 of each proposal, and the SPIs of both sides, AH before ESP
abbrev pub agreement : Agreed
agreement = record { set = record { 0 = 2 }; transforms = Two (record { 0 = 1 }) (record { 0 = 1 }); initiator = Both 256 257; responder = Both 512 513 }

-- the three messages
abbrev pub message_first : List ℕ
message_first = messages.message_one start.initiator.end.own 7 first_identity second_identity

abbrev pub message_second : List ℕ
message_second =
    messages.message_two start.responder.end.own 7 agreement.transforms (sets.set_numbered agreement.set (choices.body_at 1 message_first))
    first_identity second_identity

abbrev pub message_third : List ℕ
message_third = messages.message_three start.initiator.end.own 7

-- the world after these events; each is computed once
unfoldable pub after : World → List Event → World
after w [] = w
after w (ev ∷ evs) = after (step w ev) evs

-- what may happen: begin, a tick, and each message as it arrives
abbrev begin_first : Event
begin_first = at_first (begin 7 first_identity second_identity buffer)

abbrev tick_first : Event
tick_first = at_first (tick buffer)

abbrev tick_second : Event
tick_second = at_second (tick buffer)

abbrev deliver_one : Event
deliver_one = at_second (deliver (filled message_first) true buffer)

abbrev deliver_two : Event
deliver_two = at_first (deliver (filled message_second) true buffer)

abbrev deliver_three : Event
deliver_three = at_second (deliver (filled message_third) true buffer)

-- the moments: message one is lost, and a tick sends it again; it arrives twice; message two arrives; message three arrives
abbrev pub resent : World
resent = after start (begin_first ∷ tick_first ∷ [])

abbrev pub repeated : World
repeated = after resent (deliver_one ∷ deliver_one ∷ [])

abbrev pub halfway : World
halfway = after repeated (deliver_two ∷ [])

abbrev pub opened : World
opened = after halfway (deliver_three ∷ [])

-- or message three never arrives: three ticks send message two again, and the fourth gives up
abbrev pub forsaken : World
forsaken = after halfway (tick_second ∷ tick_second ∷ tick_second ∷ tick_second ∷ [])

-- what is seen at a moment: the states, how long the kept buffers are, and what was written so far, the newest first
pub record Seen : Type 0 where
  pub first : State
  pub second : State
  pub first_sent : ℕ
  pub first_got : ℕ
  pub second_sent : ℕ
  pub second_got : ℕ
  pub from_first : List (List ℕ)
  pub from_second : List (List ℕ)

abbrev pub seen : World → Seen
seen w = record {
  first = state_of w.initiator;
  second = state_of w.responder;
  first_sent = length w.initiator.sent;
  first_got = length w.initiator.got;
  second_sent = length w.responder.sent;
  second_got = length w.responder.got;
  from_first = w.from_initiator;
  from_second = w.from_responder;
}

-- the moment w shows these states and messages, and buffers of full size
pub record At (w : World) (first second : State) (from_first from_second : List (List ℕ)) : Type 0 where
  pub shows : seen w
      ≡ record {
        first = first;
        second = second;
        first_sent = 2048;
        first_got = 2048;
        second_sent = 2048;
        second_got = 2048;
        from_first = from_first;
        from_second = from_second;
      }

abbrev agreed_at : World → List Agreed
agreed_at w = agreed_of w.initiator ∷ agreed_of w.responder ∷ []

-- what is computed
pub record Computed : Type 0 where
  pub starts_fresh : Fresh start
  pub begin-sends : (called start.initiator (begin 7 first_identity second_identity buffer)).step.answer ≡ Send (length message_first)
  pub second-chooses : choices.choose_from 32 (messages.book_of start.responder.end.own) (choices.body_at 1 message_first)
      ≡ Chosen agreement.set (record { 0 = 1 }) agreement.transforms
  pub one-equals : shapes.alike (filled message_first) message_first ≡ true
  pub two-equals : shapes.alike (filled message_second) message_second ≡ true
  pub three-equals : shapes.alike (filled message_third) message_third ≡ true
  pub at_resent : At resent Sent Idle (message_first ∷ message_first ∷ []) []
  pub at-repeated : At repeated Sent Half (message_first ∷ message_first ∷ []) (message_second ∷ message_second ∷ [])
  pub at-halfway : At halfway Open Half (message_third ∷ message_first ∷ message_first ∷ []) (message_second ∷ message_second ∷ [])
  pub at-opened : At opened Open Open (message_third ∷ message_first ∷ message_first ∷ []) (message_second ∷ message_second ∷ [])
  pub at_forsaken : At forsaken Open GivenUp (message_third ∷ message_first ∷ message_first ∷ [])
      (message_second ∷ message_second ∷ message_second ∷ message_second ∷ message_second ∷ [])
  pub both_agreed : agreed_at opened ≡ agreement ∷ agreement ∷ []

pub computed : Computed
unfolding start book_one book_two first_identity second_identity nonce_one nonce_two buffer filled called after
    number_at bytes_of head headed all_zero equal paste
    attributes.sent_fixed attributes.attribute_type attributes.attribute_size attributes.after_attribute coding.out_of_bounds attributes.find attributes.attribute
    coding.must_be_fixed coding.fixed_wrong coding.is_duration coding.duration_wrong coding.is_life_type coding.value_length coding.from_value coding.whole_value coding.alike
    coding.repeats coding.stands_wrong coding.attribute_code coding.last_code coding.attributes_from coding.attributes_code
    attributes.value attributes.attribute_count
    transforms.next_wanted transforms.transform_wrong transforms.transform_code transforms.transforms_code
    proposals.proposal_wrong proposals.has proposals.with proposals.none proposals.set_before proposals.order_wrong proposals.protocol_wrong proposals.spi_wrong
    proposals.count_wrong proposals.transform_bytes proposals.inner_code proposals.proposal_code proposals.proposals_code proposals.offer_code
    header.length_wrong header.major_wrong header.minor_wrong header.exchange_refused header.exchange_unknown header.flags_wrong header.cookie_zero
    header.message_id_wrong header.flagged_length_wrong header.no_payload header.header_code
    identities.quick_data identities.port_zero identities.lawful identities.identity_code
    payloads.type_wrong payloads.length_out payloads.hash_code payloads.nonce_code payloads.body_code payloads.body_of payloads.payload_code payloads.rest_code
    message.in_front message.chain message.reading message.exchange_and_count message.message message.walk message.payload_at
    parts.skip parts.parts items.first_item items.after_item sets.set_end sets.first_set sets.after_set parts.numbered sets.set sets.set_count sets.set_numbered
    items.proposal items.proposal_count fields.proposal_number fields.protocol fields.spi fields.transform_count items.transform items.transform_numbered
    fields.transform_number fields.transform_id fields.attributes_of
    lines.quick_start lines.quick_count lines.book_size lines.main_seconds lines.quick_at lines.quick_protocols lines.quick_mode lines.quick_seconds
    books.main_line_lawful books.quick_line_lawful books.main_lines_lawful books.quick_lines_lawful books.book_in_front
    suits.present suits.value_is suits.find_duration suits.seconds_within suits.has_kilobytes suits.kilobytes_some suits.nothing_surplus suits.quick_id suits.quick_authentication suits.quick_suits suits.suits_line
    suits.transform_suits suits.lowest_from suits.lowest suits.protocols_alone suits.protocols_both suits.protocols_suit suits.set_suits
    choices.line_count choices.line_from choices.first_line choices.number_of choices.transforms_of choices.chosen choices.set_from choices.choose_from choices.body_at
    replies.own_spi replies.fields replies.proposal_of replies.proposal_reply replies.set_reply replies.sa_of
    messages.book_of messages.nonce_of messages.fixed messages.authentication messages.attributes messages.transform_one messages.line_proposal messages.line_set
    messages.next_set messages.line_sets messages.lines messages.offer_of messages.hash messages.padding messages.padded messages.header messages.message_of
    messages.nonce_and_identities messages.longer messages.proposals_of messages.message_one messages.message_two messages.message_three
    shapes.type_is shapes.shape shapes.is_longer shapes.alike checks.cookies_not_own fresh.is_idle fresh.is_initiator checks.quick_code checks.read_code shapes.count_of
    shapes.shape_of taken.proposal_taken taken.set_taken taken.replied_set taken.offered_set taken.identities_same taken.taken_code agreed.spis_of agreed.transforms_in
    agreed.spi_for agreed.own_spis taken.agreed_two
    fresh.fresh_code fresh.idle fresh.own_of fresh.fresh steps.small steps.kept fresh.is_given_up begins.identities_wrong begins.begin_code begins.begun
    ticks.tick_code steps.with_state ticks.one_more ticks.is_open ticks.ticked delivers.delivery_code delivers.identity_at delivers.opened delivers.at_initiator
    delivers.halfway delivers.after_choice delivers.at_responder delivers.delivered
computed = record {
  starts_fresh = record {
    icookie = 3;
    rcookie = 4;
    icookie-fits = omega arith;
    rcookie-fits = omega arith;
    first = record { book = book_one; ah = 256; esp = 257; nonce = nonce_one; ah-fits = omega arith; esp-fits = omega arith; made = refl };
    second = record { book = book_two; ah = 512; esp = 513; nonce = nonce_two; ah-fits = omega arith; esp-fits = omega arith; made = refl };
    none_first = refl;
    none-second = refl;
  };
  begin-sends = refl;
  second-chooses = refl;
  one-equals = refl;
  two-equals = refl;
  three-equals = refl;
  at_resent = record { shows = refl };
  at-repeated = record { shows = refl };
  at-halfway = record { shows = refl };
  at-opened = record { shows = refl };
  at_forsaken = record { shows = refl };
  both_agreed = refl;
}

-- ---- what a moment shows, one by one

full_size : (p : Party) → length p.sent ≡ 2048 → length p.got ≡ 2048 → FullSize p buffer
unfolding buffer
full_size p a b = record { in_sent = omega arith; in_got = omega arith; in_output = omega (arith, length-replicate {A = ℕ} 2048 0) }

module _ {w : World} {first second : State} {from_first from_second : List (List ℕ)} (at : At w first second from_first from_second) where
  pub first-is : state_of w.initiator ≡ first
  first-is = ap (λ (s : Seen). s.first) at.shows

  pub second_is : state_of w.responder ≡ second
  second_is = ap (λ (s : Seen). s.second) at.shows

  first-full : FullSize w.initiator buffer
  first-full = full_size w.initiator (ap (λ (s : Seen). s.first_sent) at.shows) (ap (λ (s : Seen). s.first_got) at.shows)

  second-full : FullSize w.responder buffer
  second-full = full_size w.responder (ap (λ (s : Seen). s.second_sent) at.shows) (ap (λ (s : Seen). s.second_got) at.shows)

  first-wrote : w.from_initiator ≡ from_first
  first-wrote = ap (λ (s : Seen). s.from_first) at.shows

  second-wrote : w.from_responder ≡ from_second
  second-wrote = ap (λ (s : Seen). s.from_second) at.shows

-- each message that arrives was written last, apart from the hash
heard-last : {m : List ℕ} {log logged : List (List ℕ)} → logged ≡ m ∷ log → shapes.alike (filled m) m ≡ true → Heard (filled m) logged
heard-last e same = rw e (here same)

one-heard : Heard (filled message_first) resent.from_initiator
one-heard = heard-last (first-wrote computed.at_resent) computed.one-equals

two-heard : Heard (filled message_second) repeated.from_responder
two-heard = heard-last (second-wrote computed.at-repeated) computed.two-equals

three-heard : Heard (filled message_third) halfway.from_initiator
three-heard = heard-last (first-wrote computed.at-halfway) computed.three-equals

-- ---- the runs to these moments

pub to_halfway : Run start halfway
unfolding after
to_halfway =
    goes (goes (goes (goes (goes rest begin_first (omega arith)) tick_first tt) deliver_one (λ t. one-heard)) deliver_one (λ t. one-heard))
    deliver_two
    (λ t. two-heard)

pub to_opened : Run start opened
unfolding after
to_opened = goes to_halfway deliver_three (λ t. three-heard)

pub to_forsaken : Run start forsaken
unfolding after
to_forsaken = goes (goes (goes (goes to_halfway tick_second tt) tick_second tt) tick_second tt) tick_second tt

-- ---- the same exchange as a begin, a choice, and the arrival of three messages

pub begin-passes : (number : ℕ) → steps.step_answer (called start.initiator (begin 7 first_identity second_identity buffer)).step.answer ≡ refused number → ⊥
begin-passes number e = let sends = computed.begin-sends in let is = refused-is _ number e in never (cc)

abbrev pub beginning : Beginning start
beginning = record {
  moment = start;
  run = rest;
  id = 7;
  first = first_identity;
  second = second_identity;
  output = buffer;
  narrow = omega arith;
  unrefused = begin-passes;
}

abbrev pub chooses : Chooses start.responder.end.own (one_of beginning)
chooses = record { number = agreement.set; line = record { 0 = 1 }; transforms = agreement.transforms; chosen = computed.second-chooses }

-- what an arrival asks besides the bytes
pub record Ready (m : List ℕ) (p : Party) : Type 0 where
  pub equals : shapes.alike (filled m) m ≡ true
  pub full : FullSize p buffer
  pub up : state_of p ≡ GivenUp → ⊥

abbrev arrival : {m : List ℕ} {p : Party} → Ready m p → Arrives m p
arrival {m} ready = record { bytes = filled m; output = buffer; equals = ready.equals; full = ready.full; up = ready.up }

pub one_ready : Ready message_first resent.responder
one_ready =
    let idle = second_is computed.at_resent in
    record { equals = computed.one-equals; full = second-full computed.at_resent; up = λ e. never (cc) }

pub two_ready : Ready message_second repeated.initiator
two_ready =
    let sent = first-is computed.at-repeated in
    record { equals = computed.two-equals; full = first-full computed.at-repeated; up = λ e. never (cc) }

pub three_ready : Ready message_third halfway.responder
three_ready =
    let half = second_is computed.at-halfway in
    record { equals = computed.three-equals; full = second-full computed.at-halfway; up = λ e. never (cc) }

abbrev pub one_arrives : Arrives (one_of beginning) resent.responder
one_arrives = arrival one_ready

abbrev pub two_arrives : Arrives (two_of beginning chooses) repeated.initiator
two_arrives = arrival two_ready

abbrev pub three_arrives : Arrives (three_of beginning) halfway.responder
three_arrives = arrival three_ready

-- what happens between: the tick, the second arrival of message one, and nothing
pub one_lost : Run (after_begin beginning) resent
unfolding after
one_lost = goes rest tick_first tt

pub one_again : Run (step resent (at_second (delivery one_arrives))) repeated
unfolding after
one_again = goes rest deliver_one (λ t. one-heard)

pub two-taken : Run (step repeated (at_first (delivery two_arrives))) halfway
unfolding after
two-taken = rest

pub three-taken : Run (step halfway (at_second (delivery three_arrives))) opened
unfolding after
three-taken = rest
