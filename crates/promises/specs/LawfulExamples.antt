-- Examples of document 02, "Ten", as one table: what the definitions answer beside what was worked out by hand, under one theorem.
use Rattle.std.specs.Prelude.{ℕ, ◌≡◌, refl, List, [], ◌∷◌, ◌++◌, map, true, false}
use Rattle.wire_read.specs.Wire.{Bytes, number_at, all_zero, equal}
use Rattle.wire_read.specs.Parts as parts
use Rattle.wire_read.specs.Answer.{Answer, done, refused}
use Rattle.sa_attribute.specs.Attributes as attributes
use Rattle.sa_coding.specs.Coding as coding
use Rattle.sa_transforms.specs.Transforms as transforms
use Rattle.sa_proposals.specs.Proposals as proposals
use Rattle.message_header.specs.Header as header
use Rattle.message_payload.specs.Payloads as payloads
use Rattle.message_chain.specs.Message as message
use Rattle.sa_fields.specs.Fields as fields
use Rattle.sa_items.specs.Items as items
use Rattle.sa_sets.specs.Sets as sets
use Rattle.policy_lines.specs.Lines as lines
use Rattle.policy_book.specs.Book as books
use Rattle.policy_suits.specs.Suits as suits
use Rattle.policy_choice.specs.Choice as choices
use Rattle.policy_why.specs.Why as why
use Rattle.policy_lawful.specs.Lawful as lawful
use Rattle.promises.specs.Messages.{example, quick_message, quick_book, ah, esp_with_ah}
use Rattle.promises.specs.Marked.{Example}

-- AH and ESP of the marked examples as a gateway answers them, with SPIs of its own; what comes next is told, and a byte of ESP's seconds
unfoldable pub replied_ah : (next : ℕ) → Bytes
replied_ah next =
    next ∷ 0x00 ∷ 0x00 ∷ 0x24 ∷ 0x01 ∷ 0x02 ∷ 0x04 ∷ 0x01 ∷ 0x7a ∷ 0x00 ∷ 0x00 ∷ 0x01
    ∷ 0x00 ∷ 0x00 ∷ 0x00 ∷ 0x18 ∷ 0x01 ∷ 0x14 ∷ 0x00 ∷ 0x00
    ∷ 0x80 ∷ 0x04 ∷ 0x00 ∷ 0x01 ∷ 0x80 ∷ 0x05 ∷ 0x00 ∷ 0x14 ∷ 0x80 ∷ 0x01 ∷ 0x00 ∷ 0x01 ∷ 0x80 ∷ 0x02 ∷ 0x0e ∷ 0x10 ∷ []

unfoldable pub replied_esp : (next seconds : ℕ) → Bytes
replied_esp next seconds =
    next ∷ 0x00 ∷ 0x00 ∷ 0x20 ∷ 0x01 ∷ 0x03 ∷ 0x04 ∷ 0x01 ∷ 0x7a ∷ 0x00 ∷ 0x00 ∷ 0x02
    ∷ 0x00 ∷ 0x00 ∷ 0x00 ∷ 0x14 ∷ 0x01 ∷ 0x81 ∷ 0x00 ∷ 0x00
    ∷ 0x80 ∷ 0x04 ∷ 0x00 ∷ 0x01 ∷ 0x80 ∷ 0x01 ∷ 0x00 ∷ 0x01 ∷ 0x80 ∷ 0x02 ∷ 0x0e ∷ seconds ∷ []

-- ESP alone: its transform with this number, another behind it or none, and a proposal of this set with one of them
unfoldable pub choice_of : (next number : ℕ) → Bytes
choice_of next number =
    next ∷ 0x00 ∷ 0x00 ∷ 0x18 ∷ number ∷ 0x81 ∷ 0x00 ∷ 0x00
    ∷ 0x80 ∷ 0x04 ∷ 0x00 ∷ 0x01 ∷ 0x80 ∷ 0x05 ∷ 0x00 ∷ 0x14 ∷ 0x80 ∷ 0x01 ∷ 0x00 ∷ 0x01 ∷ 0x80 ∷ 0x02 ∷ 0x0e ∷ 0x10 ∷ []

unfoldable pub esp_taking : (next set transform : ℕ) → Bytes
esp_taking next set transform =
    next ∷ 0x00 ∷ 0x00 ∷ 0x24 ∷ set ∷ 0x03 ∷ 0x04 ∷ 0x01 ∷ 0x7a ∷ 0x00 ∷ 0x00 ∷ 0x03 ∷ choice_of 0 transform

-- an offer of ESP alone in set 1, with transforms 1 and 2, and in set 2
unfoldable pub esp_twice : Bytes
esp_twice = 0x02 ∷ 0x00 ∷ 0x00 ∷ 0x3c ∷ 0x01 ∷ 0x03 ∷ 0x04 ∷ 0x02 ∷ 0x00 ∷ 0x00 ∷ 0x20 ∷ 0x00 ∷ (choice_of 3 1 ++ choice_of 0 2 ++ esp_taking 0 2 1)

-- what is answered, and what differs first: with no book, and with this one
abbrev alone : (offer reply : Bytes) → List Answer
alone offer reply =
    lawful.lawful_answer (lawful.reply_lawful false [] offer reply) ∷ lawful.difference_answer (lawful.first_difference false [] offer reply) ∷ []

abbrev booked : (book offer reply : Bytes) → List Answer
booked book offer reply =
    lawful.lawful_answer (lawful.reply_lawful true book offer reply) ∷ lawful.difference_answer (lawful.first_difference true book offer reply) ∷ []

abbrev together : Bytes
together = quick_message (ah ++ esp_with_ah)

unfoldable pub table : List Example
table =
    -- AH and ESP of one set, both answered: lawful, with the book that chooses them too
    record {
      defined = alone together (quick_message (replied_ah 2 ++ replied_esp 0 0x10)) ++ booked (quick_book 2) together (quick_message (replied_ah 2 ++ replied_esp 0 0x10));
      printed = done (1 ∷ []) ∷ done (1 ∷ []) ∷ done (1 ∷ []) ∷ done (1 ∷ []) ∷ [];
    }
    -- the proposals of one set taken as alternatives, ESP alone: 15 by its protocols; both, ESP before AH: 15 by their order
    ∷ record {
      defined = alone together (quick_message (replied_esp 0 0x10)) ++ alone together (quick_message (replied_esp 2 0x10 ++ replied_ah 0));
      printed = refused 15 ∷ done (7 ∷ []) ∷ refused 15 ∷ done (8 ∷ []) ∷ [];
    }
    -- one attribute byte, of the seconds of ESP's transform 1; a reply of main mode to an offer of quick mode
    ∷ record {
      defined = alone together (quick_message (replied_ah 2 ++ replied_esp 0 0x11)) ++ alone together example;
      printed = refused 15 ∷ done (12 ∷ 3 ∷ 1 ∷ []) ∷ refused 15 ∷ done (7 ∷ []) ∷ [];
    }
    -- another transform, and another set, than the book's: both lawful with no book
    ∷ record {
      defined = alone (quick_message esp_twice) (quick_message (esp_taking 0 1 2)) ++ booked (quick_book 1) (quick_message esp_twice) (quick_message (esp_taking 0 1 2))
          ++ booked (quick_book 1) (quick_message esp_twice) (quick_message (esp_taking 0 2 1));
      printed = done (1 ∷ []) ∷ done (1 ∷ []) ∷ refused 14 ∷ done (14 ∷ 3 ∷ 2 ∷ 1 ∷ []) ∷ refused 14 ∷ done (13 ∷ 2 ∷ 1 ∷ []) ∷ [];
    }
    -- a book that chooses nothing: what repeats is 14, what does not stays 15; a transform and a set that were not offered
    ∷ record {
      defined = booked (quick_book 1) together (quick_message (replied_ah 2 ++ replied_esp 0 0x10)) ++ booked (quick_book 1) together (quick_message (replied_esp 0 0x10))
          ++ alone (quick_message esp_twice) (quick_message (esp_taking 0 1 3)) ++ alone (quick_message esp_twice) (quick_message (esp_taking 0 3 1));
      printed = refused 14 ∷ done (15 ∷ []) ∷ refused 15 ∷ done (7 ∷ []) ∷ refused 15 ∷ done (10 ∷ 3 ∷ 3 ∷ []) ∷ refused 15 ∷ done (6 ∷ 3 ∷ []) ∷ [];
    }
    -- "reading the offer .., then of the book, then of the reply": nothing at all of three, of two, of the reply
    ∷ record {
      defined = booked [] [] [] ++ booked [] together [] ++ booked (quick_book 2) together [];
      printed = refused 30 ∷ done (2 ∷ 30 ∷ []) ∷ refused 8193 ∷ done (3 ∷ 8193 ∷ []) ∷ refused 30 ∷ done (4 ∷ 30 ∷ []) ∷ [];
    }
    ∷ []

pub lawful_examples : map (λ (e : Example). e.defined) table ≡ map (λ (e : Example). e.printed) table
unfolding table replied_ah replied_esp choice_of esp_taking esp_twice example ah esp_with_ah number_at all_zero equal quick_message quick_book attributes.sent_fixed
    attributes.attribute_type attributes.attribute_size attributes.after_attribute coding.out_of_bounds attributes.find attributes.attribute
    coding.must_be_fixed coding.fixed_wrong coding.is_duration coding.duration_wrong coding.is_life_type coding.value_length coding.from_value
    coding.whole_value coding.alike coding.repeats coding.stands_wrong coding.attribute_code coding.last_code coding.attributes_from
    coding.attributes_code transforms.next_wanted transforms.transform_wrong transforms.transform_code transforms.transforms_code
    proposals.proposal_wrong proposals.has proposals.with proposals.none proposals.set_before proposals.order_wrong proposals.protocol_wrong
    proposals.spi_wrong proposals.count_wrong proposals.transform_bytes proposals.inner_code proposals.proposal_code proposals.proposals_code
    proposals.offer_code header.length_wrong header.major_wrong header.minor_wrong header.exchange_refused header.exchange_unknown header.flags_wrong
    header.cookie_zero header.message_id_wrong header.flagged_length_wrong header.no_payload header.header_code payloads.type_wrong payloads.length_out
    payloads.body_code payloads.body_of payloads.payload_code payloads.rest_code message.in_front message.chain message.reading attributes.value
    attributes.attribute_count parts.skip parts.parts items.first_item items.after_item parts.numbered sets.set_end sets.first_set sets.after_set
    sets.set sets.set_count sets.set_numbered items.proposal items.proposal_count items.transform_numbered fields.proposal_number fields.protocol
    fields.transform_count items.transform fields.transform_number fields.transform_id fields.attributes_of lines.quick_start lines.quick_count
    lines.book_size lines.quick_at lines.quick_protocols lines.quick_mode lines.quick_seconds books.quick_line_lawful books.main_lines_lawful
    books.quick_lines_lawful books.book_in_front books.book_read suits.present suits.value_is suits.find_duration suits.seconds_within
    suits.has_kilobytes suits.kilobytes_some suits.nothing_surplus suits.quick_id suits.quick_authentication suits.quick_suits suits.suits_line
    suits.transform_suits suits.lowest_from suits.lowest suits.protocols_alone suits.protocols_both suits.protocols_suit suits.set_suits
    choices.line_count choices.line_from choices.first_line choices.number_of choices.transforms_of choices.chosen choices.set_from choices.choose_from
    choices.body_at choices.sa_from message.exchange_and_count message.message message.walk message.payload_at why.message_offer lawful.◌or_else◌
    lawful.offer_refused lawful.book_refused lawful.reply_refused lawful.replied_transform lawful.offered_transform lawful.several_transforms
    lawful.transform_not_offered lawful.other_id lawful.other_attributes lawful.last lawful.has_protocol lawful.same_protocols lawful.same_order
    lawful.protocols_differ lawful.transforms_differ lawful.replied_set lawful.replied_number lawful.offered_set lawful.sets_differ
    lawful.bodies_differ lawful.other_transform lawful.other_transforms lawful.other_set lawful.choice_differs lawful.unread lawful.compared
    lawful.first_difference lawful.lawful_by lawful.reply_lawful lawful.lawful_answer lawful.difference_values lawful.difference_answer
lawful_examples = refl
