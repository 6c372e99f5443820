-- Examples of document 02, "Two", as one table: what the definitions answer beside what was worked out by hand, under one theorem.
use Rattle.std.specs.Prelude.{ℕ, ◌+◌, ◌≡◌, refl, List, [], ◌∷◌, ◌++◌, map, length}
use Rattle.wire_read.specs.Wire.{Bytes, number_at, all_zero}
use Rattle.wire_read.specs.Parts as parts
use Rattle.wire_read.specs.Answer.{Answer, done, refused}
use Rattle.sa_attribute.specs.Attributes as attributes
use Rattle.sa_coding.specs.Coding as coding
use Rattle.sa_transforms.specs.Transforms as transforms
use Rattle.sa_proposals.specs.Proposals as proposals
use Rattle.message_header.specs.Header as header
use Rattle.message_payload.specs.Payloads as payloads
use Rattle.message_chain.specs.Message as message
use Rattle.sa_fields.specs.Fields as fields
use Rattle.sa_items.specs.Items as items
use Rattle.sa_sets.specs.Sets as sets
use Rattle.policy_lines.specs.Lines as lines
use Rattle.policy_book.specs.Book as books
use Rattle.policy_suits.specs.Suits as suits
use Rattle.policy_choice.specs.Choice as choices
use Rattle.promises.specs.Messages.{quick_message, quick_book}
use Rattle.promises.specs.Marked.{Example}

-- a proposal for ESP with one transform that has these attributes, at most 235 bytes of them: both lengths are below 256
unfoldable pub esp_of : (attributes : Bytes) → Bytes
esp_of attributes =
    0x00 ∷ 0x00 ∷ 0x00 ∷ (20 + length attributes) ∷ 0x01 ∷ 0x03 ∷ 0x04 ∷ 0x01 ∷ 0x00 ∷ 0x00 ∷ 0x20 ∷ 0x00
    ∷ 0x00 ∷ 0x00 ∷ 0x00 ∷ (8 + length attributes) ∷ 0x01 ∷ 0x81 ∷ 0x00 ∷ 0x00 ∷ attributes

-- mode 1 and authentication 20
unfoldable pub singles : Bytes
singles = 0x80 ∷ 0x04 ∷ 0x00 ∷ 0x01 ∷ 0x80 ∷ 0x05 ∷ 0x00 ∷ 0x14 ∷ []

-- a life type, and a duration of 3,600: together they are an hour
unfoldable pub life_type : (value : ℕ) → Bytes
life_type value = 0x80 ∷ 0x01 ∷ 0x00 ∷ value ∷ []

unfoldable pub duration : Bytes
duration = 0x80 ∷ 0x02 ∷ 0x0e ∷ 0x10 ∷ []

abbrev hour : Bytes
hour = life_type 1 ++ duration

-- kilobytes in variable form: 4,608,000 are 00 46 50 00
unfoldable pub kilobytes : (second third : ℕ) → Bytes
kilobytes second third = life_type 2 ++ (0x00 ∷ 0x02 ∷ 0x00 ∷ 0x04 ∷ 0x00 ∷ second ∷ third ∷ 0x00 ∷ [])

-- an attribute in variable form, with a value of at most 255 bytes
unfoldable pub variable : (attributetype : ℕ) (value : Bytes) → Bytes
variable attributetype value = 0x00 ∷ attributetype ∷ 0x00 ∷ length value ∷ value

-- a line of ESP alone, mode 1 and 3,600 seconds
abbrev chosen_of : (attributes : Bytes) → Answer
chosen_of attributes = choices.choice_answer (choices.choice (quick_book 1) (quick_message (esp_of attributes)))

unfoldable pub table : List Example
table =
    -- "A gateway offers seconds and kilobytes together .. and we answer 15": chosen, whatever order the pairs and the others have
    record {
      defined = map chosen_of ((hour ++ kilobytes 0x46 0x50 ++ singles) ∷ (kilobytes 0x46 0x50 ++ singles ++ hour) ∷ []);
      printed = done (1 ∷ 1 ∷ 1 ∷ []) ∷ done (1 ∷ 1 ∷ 1 ∷ []) ∷ [];
    }
    -- "and, if present, kilobytes of at least 1"; kilobytes alone are not "seconds within the line"
    ∷ record {
      defined = map chosen_of ((singles ++ hour ++ kilobytes 0 0) ∷ (singles ++ kilobytes 0x46 0x50) ∷ []);
      printed = refused 14 ∷ refused 14 ∷ [];
    }
    -- "each duration must directly follow its life type": the duration first, which was read before; an attribute between the two
    ∷ record {
      defined = map chosen_of ((singles ++ duration ++ life_type 1) ∷ (life_type 1 ++ singles ++ duration) ∷ []);
      printed = refused 15 ∷ refused 15 ∷ [];
    }
    -- "no life type stands without one": a life type last
    ∷ record { defined = chosen_of (singles ++ hour ++ life_type 2) ∷ []; printed = refused 15 ∷ [] }
    -- "each life type value occurs at most once": behind life type 1 the bytes 000001 repeat it; 0100000001 do not, and are 13 by the next check
    ∷ record {
      defined = map chosen_of ((hour ++ variable 1 (0 ∷ 0 ∷ 1 ∷ [])) ∷ (hour ++ variable 1 (1 ∷ 0 ∷ 0 ∷ 0 ∷ 1 ∷ [])) ∷ []);
      printed = refused 15 ∷ refused 13 ∷ [];
    }
    -- a broken pair is noticed at what follows the life type, "where the single-type check stood": before that attribute's own 13
    ∷ record { defined = chosen_of (life_type 1 ++ variable 4 [] ++ duration) ∷ []; printed = refused 15 ∷ [] }
    ∷ []

pub lifetime_examples : map (λ (e : Example). e.defined) table ≡ map (λ (e : Example). e.printed) table
unfolding table esp_of singles life_type duration kilobytes variable number_at all_zero quick_message quick_book
    attributes.sent_fixed attributes.attribute_type attributes.attribute_size attributes.after_attribute coding.out_of_bounds attributes.find
    attributes.attribute coding.must_be_fixed coding.fixed_wrong coding.is_duration coding.duration_wrong coding.is_life_type coding.value_length
    coding.from_value coding.whole_value coding.alike coding.repeats coding.stands_wrong coding.attribute_code coding.last_code
    coding.attributes_from coding.attributes_code transforms.next_wanted transforms.transform_wrong transforms.transform_code
    transforms.transforms_code proposals.proposal_wrong proposals.has proposals.with proposals.none proposals.set_before proposals.order_wrong
    proposals.protocol_wrong proposals.spi_wrong proposals.count_wrong proposals.transform_bytes proposals.inner_code proposals.proposal_code
    proposals.proposals_code proposals.offer_code header.length_wrong header.major_wrong header.minor_wrong header.exchange_refused
    header.exchange_unknown header.flags_wrong header.cookie_zero header.message_id_wrong header.flagged_length_wrong header.no_payload
    header.header_code payloads.type_wrong payloads.length_out payloads.body_code payloads.body_of payloads.payload_code payloads.rest_code
    message.in_front message.chain message.reading attributes.value attributes.attribute_count parts.skip parts.parts items.first_item
    items.after_item sets.set_end sets.first_set sets.after_set sets.set sets.set_count items.proposal items.proposal_count fields.proposal_number
    fields.protocol fields.transform_count items.transform fields.transform_number fields.transform_id fields.attributes_of lines.quick_start
    lines.quick_count lines.book_size lines.main_seconds lines.quick_at lines.quick_protocols lines.quick_mode lines.quick_seconds
    books.main_line_lawful books.quick_line_lawful books.main_lines_lawful books.quick_lines_lawful books.book_in_front books.book_read suits.present
    suits.value_is suits.find_duration suits.seconds_within suits.has_kilobytes suits.kilobytes_some suits.nothing_surplus suits.main_values
    suits.main_suits suits.quick_id suits.quick_authentication suits.quick_suits suits.suits_line suits.transform_suits suits.lowest_from
    suits.lowest suits.protocols_alone suits.protocols_both suits.protocols_suit suits.set_suits choices.line_count choices.line_from
    choices.first_line choices.number_of choices.transforms_of choices.chosen choices.set_from choices.choose_from choices.body_at choices.sa_from
    choices.message_choice choices.book_choice choices.choice choices.choice_answer message.exchange_and_count message.message message.walk
    message.payload_at
lifetime_examples = refl
