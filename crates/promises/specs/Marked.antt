-- The marked examples of document 01 as one table: what the definitions answer beside what the paper says, under one theorem.
use Rattle.std.specs.Prelude.{◌≡◌, refl, List, [], ◌∷◌, ◌++◌, map, true, false, length, replicate, set}
use Rattle.wire_read.specs.Wire.{number_at, all_zero}
use Rattle.wire_read.specs.Parts as parts
use Rattle.wire_write.specs.Put.{bytes_of, head, headed, paste}
use Rattle.wire_read.specs.Answer.{Answer, told, done, refused}
use Rattle.der.specs.Der.{tag_wrong, constructed, head_size, body_size, contents, size, list, filled, element, is_element, is_name}
use Rattle.sa_attribute.specs.Attributes as attributes
use Rattle.sa_coding.specs.Coding as coding
use Rattle.sa_transforms.specs.Transforms as transforms
use Rattle.sa_proposals.specs.Proposals as proposals
use Rattle.message_header.specs.Header as header
use Rattle.message_payload.specs.Payloads as payloads
use Rattle.message_chain.specs.Message as message
use Rattle.promises.specs.Messages.{example, quick_message, ah, esp_with_ah, esp_alone, main_book, quick_book}
use Rattle.sa_fields.specs.Fields as fields
use Rattle.sa_items.specs.Items as items
use Rattle.sa_sets.specs.Sets as sets
use Rattle.policy_lines.specs.Lines as lines
use Rattle.policy_book.specs.Book as books
use Rattle.policy_suits.specs.Suits as suits
use Rattle.policy_choice.specs.Choice as choices
use Rattle.sequence_history.specs.History.{packets_of, in_turn, answers_to, loss_of, answered, answered_all}
use Rattle.quick_write.specs.Messages as messages
use Rattle.quick_end.specs.Fresh as fresh
use Rattle.quick_end.specs.declared.Role.TheVariants.{Initiator}
use Rattle.quick_end.specs.Fresh.{Made}
use Rattle.sequence_record.specs.Receive as receive
use Rattle.sequence_packet.specs.Packets as packets
use Rattle.sequence_table.specs.Table as tables
use Rattle.std.specs.Int.Count.{ones}

-- answers of the definitions, and what the paper says of them: one of each, or as many as a run has calls
pub record Example : Type 0 where
  pub defined : List Answer
  pub printed : List Answer

-- an initiator as `fresh` gives it: cookies, a book of one quick line, AH and ESP SPIs, a nonce of 8 bytes
abbrev initiator : Made
initiator = fresh.fresh Initiator 1 2 (quick_book 1) 256 256 (replicate 8 0)

unfoldable pub table : List Example
table =
    -- M1 the message above reads as shown: exchange 2, one payload, of type 1 at 28 with length 52
    record { defined = message.shown (message.reading example) (header.exchange_of example) ∷ []; printed = done (2 ∷ 1 ∷ 1 ∷ 28 ∷ 52 ∷ []) ∷ [] }
    ∷ record { defined = message.message_answer (message.message example) ∷ []; printed = done (2 ∷ 1 ∷ []) ∷ [] }
    ∷ record { defined = done (message.shown_payloads (message.payload_at 0 example ∷ [])) ∷ []; printed = done (1 ∷ 28 ∷ 52 ∷ []) ∷ [] }
    -- M2 it is chosen: set 1, line 1, transform 1
    ∷ record { defined = choices.choice_answer (choices.choice main_book example) ∷ []; printed = done (1 ∷ 1 ∷ 1 ∷ []) ∷ [] }
    -- M3 with `0E11` it is 14
    ∷ record { defined = choices.choice_answer (choices.choice main_book (set example 79 0x11)) ∷ []; printed = refused 14 ∷ [] }
    -- M4 version byte 0x10 is 6
    ∷ record { defined = message.message_answer (message.message (set example 17 0x10)) ∷ []; printed = refused 6 ∷ [] }
    -- M5 AH and ESP in set 1 against ESP alone is 14
    ∷ record { defined = choices.choice_answer (choices.choice (quick_book 1) (quick_message (ah ++ esp_with_ah))) ∷ []; printed = refused 14 ∷ [] }
    -- also with an ESP that by itself is chosen, as the row behind shows: a core that takes proposals of one set as alternatives chooses it
    ∷ record { defined = choices.choice_answer (choices.choice (quick_book 1) (quick_message (ah ++ esp_alone))) ∷ []; printed = refused 14 ∷ [] }
    ∷ record { defined = choices.choice_answer (choices.choice (quick_book 1) (quick_message esp_alone)) ∷ []; printed = done (1 ∷ 1 ∷ 1 ∷ []) ∷ [] }
    -- M6 against AH with ESP, with suiting transforms, it is chosen
    ∷ record { defined = choices.choice_answer (choices.choice (quick_book 2) (quick_message (ah ++ esp_with_ah))) ∷ []; printed = done (1 ∷ 1 ∷ 1 ∷ 1 ∷ []) ∷ [] }
    -- M7 `30 00` is a name
    ∷ record { defined = told (is_name (0x30 ∷ 0x00 ∷ [])) ∷ []; printed = told true ∷ [] }
    -- M8 `30 80` isn't
    ∷ record { defined = told (is_name (0x30 ∷ 0x80 ∷ [])) ∷ []; printed = told false ∷ [] }
    -- M9 a fresh entry: 0 is 8197, 1 accepted, 1 again 8194. What is accepted carries its rise (document 02, Four)
    ∷ record { defined = answers_to (0 ∷ 1 ∷ 1 ∷ []); printed = refused 8197 ∷ done (1 ∷ []) ∷ refused 8194 ∷ [] }
    -- M10 after 64 alone, 1 is accepted; after 65 alone, 8197
    ∷ record { defined = answers_to (64 ∷ 1 ∷ []); printed = done (64 ∷ []) ∷ done (0 ∷ []) ∷ [] }
    ∷ record { defined = answers_to (65 ∷ 1 ∷ []); printed = done (65 ∷ []) ∷ refused 8197 ∷ [] }
    -- M11 accepted 1, 2, 4: loss line 4, 4, 3
    ∷ record { defined = loss_of (1 ∷ 2 ∷ 4 ∷ []) ∷ []; printed = done (4 ∷ 4 ∷ 3 ∷ []) ∷ [] }
    -- M12 message 3 has 76 bytes; the number that came with the end is 0
    ∷ record { defined = done (initiator.number ∷ length (messages.message_three initiator.end.own 5) ∷ []) ∷ []; printed = done (0 ∷ 76 ∷ []) ∷ [] }
    ∷ []

pub marked : map (λ (e : Example). e.defined) table ≡ map (λ (e : Example). e.printed) table
unfolding table example number_at all_zero tag_wrong constructed head_size body_size contents size list filled element is_element is_name
    attributes.sent_fixed attributes.attribute_type attributes.attribute_size attributes.after_attribute coding.out_of_bounds attributes.find
    attributes.attribute coding.must_be_fixed coding.fixed_wrong coding.is_duration coding.duration_wrong coding.is_life_type coding.value_length coding.from_value coding.whole_value coding.alike
    coding.repeats coding.stands_wrong coding.attribute_code coding.last_code
    coding.attributes_from coding.attributes_code transforms.next_wanted transforms.transform_wrong transforms.transform_code
    transforms.transforms_code proposals.proposal_wrong proposals.has proposals.with proposals.none proposals.set_before proposals.order_wrong
    proposals.protocol_wrong proposals.spi_wrong proposals.count_wrong proposals.transform_bytes proposals.inner_code proposals.proposal_code
    proposals.proposals_code proposals.offer_code header.length_wrong header.major_wrong header.minor_wrong header.exchange_refused
    header.exchange_unknown header.flags_wrong header.cookie_zero header.message_id_wrong header.flagged_length_wrong header.no_payload
    header.header_code payloads.type_wrong payloads.length_out payloads.body_code payloads.body_of payloads.payload_code payloads.rest_code
    message.in_front message.chain message.reading message.message_answer message.shown message.shown_payloads packets_of in_turn answers_to loss_of
    answered answered_all bytes_of receive.judged receive.verdict_answer packets.read packets.esp tables.holds tables.is_free tables.first_place
    tables.find tables.free tables.entry_at tables.put_entry tables.put_key tables.added tables.judged_at tables.packet_read tables.packet
    tables.loss tables.outcome_answer tables.counted_answer ones quick_message ah esp_with_ah esp_alone main_book quick_book
    attributes.value attributes.attribute_count parts.skip parts.parts items.first_item items.after_item sets.set_end sets.first_set sets.after_set
    sets.set sets.set_count items.proposal items.proposal_count fields.proposal_number fields.protocol fields.transform_count items.transform fields.transform_number
    fields.transform_id fields.attributes_of lines.quick_start lines.quick_count lines.book_size lines.main_seconds lines.quick_at
    lines.quick_protocols lines.quick_mode lines.quick_seconds books.main_line_lawful books.quick_line_lawful books.main_lines_lawful
    books.quick_lines_lawful books.book_in_front books.book_read suits.present suits.value_is suits.find_duration suits.seconds_within suits.has_kilobytes suits.kilobytes_some suits.nothing_surplus
    suits.main_values suits.main_suits suits.quick_id suits.quick_authentication suits.quick_suits suits.suits_line suits.transform_suits
    suits.lowest_from suits.lowest suits.protocols_alone suits.protocols_both suits.protocols_suit suits.set_suits choices.line_count
    choices.line_from choices.first_line choices.number_of choices.transforms_of choices.chosen choices.set_from choices.choose_from
    choices.body_at choices.sa_from choices.message_choice choices.book_choice choices.choice choices.choice_answer message.exchange_and_count
    message.message message.walk message.payload_at fresh.fresh_code fresh.own_of fresh.fresh messages.hash messages.padding messages.padded
    messages.header messages.message_of messages.message_three head headed paste
marked = refl
