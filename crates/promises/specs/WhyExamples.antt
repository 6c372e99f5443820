-- Examples of document 02, "Three", as one table: what the definitions answer beside what was worked out by hand, under one theorem.
use Rattle.std.specs.Prelude.{ℕ, ◌≡◌, refl, List, [], ◌∷◌, ◌++◌, map}
use Rattle.wire_read.specs.Wire.{Bytes, number_at, all_zero}
use Rattle.wire_read.specs.Parts as parts
use Rattle.wire_read.specs.Answer.{Answer, done}
use Rattle.sa_attribute.specs.Attributes as attributes
use Rattle.sa_coding.specs.Coding as coding
use Rattle.sa_transforms.specs.Transforms as transforms
use Rattle.sa_proposals.specs.Proposals as proposals
use Rattle.message_header.specs.Header as header
use Rattle.message_payload.specs.Payloads as payloads
use Rattle.message_chain.specs.Message as message
use Rattle.sa_fields.specs.Fields as fields
use Rattle.sa_items.specs.Items as items
use Rattle.sa_sets.specs.Sets as sets
use Rattle.policy_lines.specs.Lines as lines
use Rattle.policy_book.specs.Book as books
use Rattle.policy_suits.specs.Suits as suits
use Rattle.policy_choice.specs.Choice as choices
use Rattle.policy_cause.specs.Causes as causes
use Rattle.policy_why.specs.declared.Places.{Places}
use Rattle.policy_why.specs.Why as why
use Rattle.promises.specs.Messages.{quick_message, quick_book, ah, esp_with_ah, esp_alone}
use Rattle.promises.specs.LifetimeExamples.{esp_of, singles, life_type, duration, kilobytes}
use Rattle.promises.specs.Marked.{Example}

-- ESP under the ID of AH
unfoldable pub esp_id20 : Bytes
esp_id20 =
    0x00 ∷ 0x00 ∷ 0x00 ∷ 0x14 ∷ 0x01 ∷ 0x03 ∷ 0x04 ∷ 0x01 ∷ 0x00 ∷ 0x00 ∷ 0x20 ∷ 0x00
    ∷ 0x00 ∷ 0x00 ∷ 0x00 ∷ 0x08 ∷ 0x01 ∷ 0x14 ∷ 0x00 ∷ 0x00 ∷ []

-- attribute 6 with 128, and a duration of 7,200
unfoldable pub key_length : Bytes
key_length = 0x80 ∷ 0x06 ∷ 0x00 ∷ 0x80 ∷ []

unfoldable pub two_hours : Bytes
two_hours = 0x80 ∷ 0x02 ∷ 0x1c ∷ 0x20 ∷ []

abbrev hour : Bytes
hour = life_type 1 ++ duration

-- one quick line of ESP alone, mode 2, 3,600 seconds
unfoldable pub transport_book : Bytes
transport_book = 0x00 ∷ 0x01 ∷ 0x01 ∷ 0x02 ∷ 0x00 ∷ 0x00 ∷ 0x0e ∷ 0x10 ∷ []

-- the first set and the first line, and this proposal and transform, counted from 0
abbrev why_at : (proposal transform : ℕ) (book proposals : Bytes) → Answer
why_at proposal transform book offer =
    why.why_answer (why.why book (quick_message offer) (record { set = 0; line = 0; proposal = proposal; transform = transform }))

-- of one transform of ESP with these attributes, against a line of ESP alone, mode 1 and 3,600 seconds
abbrev why_of : (attributes : Bytes) → Answer
why_of attributes = why_at 0 0 (quick_book 1) (esp_of attributes)

unfoldable pub table : List Example
table =
    -- AH and ESP under one number against ESP alone, of which 14 was all that was said: "protocols", at each of the two
    record {
      defined = why_at 0 0 (quick_book 1) (ah ++ esp_alone) ∷ why_at 1 0 (quick_book 1) (ah ++ esp_alone) ∷ [];
      printed = done (2 ∷ []) ∷ done (2 ∷ []) ∷ [];
    }
    -- against AH with ESP: AH by itself would do and ESP has attribute 5 too many; the pair does not show "suits"
    ∷ record {
      defined = why_at 0 0 (quick_book 2) (ah ++ esp_alone) ∷ why_at 1 0 (quick_book 2) (ah ++ esp_alone)
          ∷ causes.pair_answer (causes.pair_cause 32 0 (quick_book 2) (ah ++ esp_alone)) ∷ [];
      printed = done (3 ∷ 1 ∷ []) ∷ done (3 ∷ 5 ∷ 5 ∷ 20 ∷ []) ∷ done (3 ∷ []) ∷ [];
    }
    -- "the ID", which comes before all that is missing; "a missing attribute": 5, though the mode is another too; no lifetime in seconds
    ∷ record {
      defined = why_at 0 0 (quick_book 1) esp_id20 ∷ why_at 0 0 transport_book esp_with_ah ∷ why_of (kilobytes 0x46 0x50 ++ singles) ∷ [];
      printed = done (3 ∷ 2 ∷ 20 ∷ 129 ∷ []) ∷ done (3 ∷ 3 ∷ 5 ∷ []) ∷ done (3 ∷ 3 ∷ 1 ∷ []) ∷ [];
    }
    -- "a wrong value": mode 1, wanted 2, before the surplus; "a surplus attribute": the first in the offer's order, before the seconds
    ∷ record {
      defined = why_at 0 0 transport_book (esp_of (key_length ++ singles ++ hour)) ∷ why_of (key_length ++ life_type 3 ++ duration ++ singles ++ life_type 1 ++ two_hours)
          ∷ why_of (life_type 3 ++ duration ++ key_length ++ singles ++ hour) ∷ [];
      printed = done (3 ∷ 4 ∷ 4 ∷ 1 ∷ 2 ∷ []) ∷ done (3 ∷ 5 ∷ 6 ∷ 128 ∷ []) ∷ done (3 ∷ 5 ∷ 1 ∷ 3 ∷ []) ∷ [];
    }
    -- "a lifetime out of bounds": seconds, and before kilobytes; then kilobytes
    ∷ record {
      defined = why_of (kilobytes 0 0 ++ singles ++ life_type 1 ++ two_hours) ∷ why_of (kilobytes 0 0 ++ singles ++ hour) ∷ [];
      printed = done (3 ∷ 6 ∷ 7200 ∷ 3600 ∷ []) ∷ done (3 ∷ 7 ∷ []) ∷ [];
    }
    -- "suits"; a second transform is not there
    ∷ record {
      defined = why_of (singles ++ hour) ∷ why_at 0 1 (quick_book 1) esp_alone ∷ [];
      printed = done (3 ∷ 1 ∷ []) ∷ done (1 ∷ []) ∷ [];
    }
    ∷ []

pub why_examples : map (λ (e : Example). e.defined) table ≡ map (λ (e : Example). e.printed) table
unfolding table esp_id20 key_length two_hours transport_book esp_of singles life_type duration kilobytes ah esp_with_ah esp_alone number_at all_zero
    quick_message quick_book attributes.sent_fixed attributes.attribute_type attributes.attribute_size attributes.after_attribute coding.out_of_bounds
    attributes.find attributes.attribute coding.must_be_fixed coding.fixed_wrong coding.is_duration coding.duration_wrong coding.is_life_type
    coding.value_length coding.from_value coding.whole_value coding.alike coding.repeats coding.stands_wrong coding.attribute_code coding.last_code
    coding.attributes_from coding.attributes_code transforms.next_wanted transforms.transform_wrong transforms.transform_code
    transforms.transforms_code proposals.proposal_wrong proposals.has proposals.with proposals.none proposals.set_before proposals.order_wrong
    proposals.protocol_wrong proposals.spi_wrong proposals.count_wrong proposals.transform_bytes proposals.inner_code proposals.proposal_code
    proposals.proposals_code proposals.offer_code header.length_wrong header.major_wrong header.minor_wrong header.exchange_refused
    header.exchange_unknown header.flags_wrong header.cookie_zero header.message_id_wrong header.flagged_length_wrong header.no_payload header.header_code
    payloads.type_wrong payloads.length_out payloads.body_code payloads.body_of payloads.payload_code payloads.rest_code message.in_front message.chain
    message.reading attributes.value attributes.attribute_count parts.skip parts.parts items.first_item items.after_item sets.set_end sets.first_set
    sets.after_set sets.set sets.set_count items.proposal items.proposal_count fields.proposal_number fields.protocol fields.transform_count
    items.transform fields.transform_number fields.transform_id fields.attributes_of lines.quick_start lines.quick_count lines.book_size lines.quick_at
    lines.quick_protocols lines.quick_mode lines.quick_seconds books.quick_line_lawful books.main_lines_lawful books.quick_lines_lawful books.book_in_front
    books.book_read suits.present suits.value_is suits.find_duration suits.seconds_within suits.has_kilobytes suits.kilobytes_some suits.nothing_surplus
    suits.quick_id suits.quick_authentication suits.quick_suits suits.suits_line suits.transform_suits suits.lowest_from suits.lowest
    suits.protocols_alone suits.protocols_both suits.protocols_suit suits.set_suits choices.line_count choices.body_at choices.sa_from
    message.exchange_and_count message.message message.walk message.payload_at causes.wish_of causes.wanted causes.wanted_count causes.◌or_else◌
    causes.first_cause causes.id_cause causes.is_there causes.missing_one causes.missing_cause causes.value_one causes.value_cause causes.type_wanted
    causes.is_wanted causes.first_surplus causes.surplus_cause causes.seconds_cause causes.kilobytes_cause causes.attributes_cause causes.wish_cause
    causes.transform_cause causes.pair_cause causes.cause_values causes.pair_answer why.message_offer why.book_offer why.offered why.is_place
    why.cause_in why.offer_cause why.why why.why_answer
why_examples = refl
