-- The texts of the document's lines, computed.
use mathlib.Core.Path.{◌≡◌, refl}
use mathlib.Core.List.{[], ◌∷◌, ◌++◌}
use lib.ListN.{replicate}
use Rattle.wire_read.specs.Wire.{Bytes, number_at}
use Rattle.message_chain.specs.Message.{payload_at, walk}
use Rattle.policy_choice.specs.Choice as Choices
use Rattle.policy_choice.specs.declared.Transforms.TheVariants as Transformed
use Rattle.sequence_record.specs.Verdict as Verdicts
use Rattle.capture_frame.specs.declared.Addresses.{Addresses}
use Rattle.capture_record.specs.Listed as Listings
use Rattle.bench_words.specs.Say.{digits_text, decimal_text, verdict_text, transforms_text}
use Rattle.capture_words.specs.Texts.{six_digits, place_text, stamp_text, payloads_text, named_text, what_text, choice_text}

-- 10.0.0.1 and 10.0.0.2
abbrev between : Addresses
between = record { source = 167772161; destination = 167772162 }

-- a message whose first payload is of type 1 and says 92 bytes: all that is read of it
abbrev message : Bytes
message = replicate 16 0 ++ (1 ∷ []) ++ replicate 13 0 ++ (0 ∷ 92 ∷ [])

-- `10.0.0.1 > 10.0.0.2 `
abbrev from_to : Bytes
from_to = 49 ∷ 48 ∷ 46 ∷ 48 ∷ 46 ∷ 48 ∷ 46 ∷ 49 ∷ 32 ∷ 62 ∷ 32 ∷ 49 ∷ 48 ∷ 46 ∷ 48 ∷ 46 ∷ 48 ∷ 46 ∷ 50 ∷ 32 ∷ []

-- `10.0.0.1 > 10.0.0.2 ESP 00001000 number 7 accepted 2`
esp-accepted : what_text (Listings.Packet between 3 4096 7 (Verdicts.Accepted 2)) [] ≡
    from_to ++ (69 ∷ 83 ∷ 80 ∷ 32 ∷ 48 ∷ 48 ∷ 48 ∷ 48 ∷ 49 ∷ 48 ∷ 48 ∷ 48 ∷ 32 ∷ 110 ∷ 117 ∷ 109 ∷ 98 ∷ 101 ∷ 114 ∷ 32 ∷ 55 ∷ 32 ∷ 97 ∷ 99 ∷ 99 ∷
    101 ∷ 112 ∷ 116 ∷ 101 ∷ 100 ∷ 32 ∷ 50 ∷ [])
unfolding what_text named_text verdict_text digits_text
esp-accepted = refl

-- `10.0.0.1 > 10.0.0.2 AH refused 16`
ah-refused : what_text (Listings.ShortPacket between 2 (Verdicts.Refused 16)) [] ≡
    from_to ++ (65 ∷ 72 ∷ 32 ∷ 114 ∷ 101 ∷ 102 ∷ 117 ∷ 115 ∷ 101 ∷ 100 ∷ 32 ∷ 49 ∷ 54 ∷ [])
unfolding what_text named_text verdict_text digits_text
ah-refused = refl

-- `1.2.3.4 > 5.6.7.8 enciphered exchange 32 id 0a0b0c0d`
enciphered_message : what_text (Listings.Enciphered (record { source = 16909060; destination = 84281096 }) 32 168496141) [] ≡
    (49 ∷ 46 ∷ 50 ∷ 46 ∷ 51 ∷ 46 ∷ 52 ∷ 32 ∷ 62 ∷ 32 ∷ 53 ∷ 46 ∷ 54 ∷ 46 ∷ 55 ∷ 46 ∷ 56 ∷ 32 ∷ 101 ∷ 110 ∷ 99 ∷ 105 ∷ 112 ∷ 104 ∷ 101 ∷ 114 ∷ [])
    ++ (101 ∷ 100 ∷ 32 ∷ 101 ∷ 120 ∷ 99 ∷ 104 ∷ 97 ∷ 110 ∷ 103 ∷ 101 ∷ 32 ∷ 51 ∷ 50 ∷ 32 ∷ 105 ∷ 100 ∷ 32 ∷ 48 ∷ 97 ∷ 48 ∷ 98 ∷ 48 ∷ 99 ∷ 48 ∷ 100 ∷ [])
unfolding what_text digits_text
enciphered_message = refl

-- `10.0.0.1 > 10.0.0.2 other ports 53 > 1024`
ports_other : what_text (Listings.OtherPorts between (record { source = 53; destination = 1024 })) [] ≡
    from_to ++ (111 ∷ 116 ∷ 104 ∷ 101 ∷ 114 ∷ 32 ∷ 112 ∷ 111 ∷ 114 ∷ 116 ∷ 115 ∷ 32 ∷ 53 ∷ 51 ∷ 32 ∷ 62 ∷ 32 ∷ 49 ∷ 48 ∷ 50 ∷ 52 ∷ [])
unfolding what_text digits_text
ports_other = refl

-- `10.0.0.1 > 10.0.0.2 other protocol 6`
protocol-other : what_text (Listings.OtherProtocol between 6) [] ≡
    from_to ++ (111 ∷ 116 ∷ 104 ∷ 101 ∷ 114 ∷ 32 ∷ 112 ∷ 114 ∷ 111 ∷ 116 ∷ 111 ∷ 99 ∷ 111 ∷ 108 ∷ 32 ∷ 54 ∷ [])
unfolding what_text digits_text
protocol-other = refl

-- `10.0.0.1 > 10.0.0.2 keepalive`
kept_alive : what_text (Listings.Keepalive between) [] ≡
    from_to ++ (107 ∷ 101 ∷ 101 ∷ 112 ∷ 97 ∷ 108 ∷ 105 ∷ 118 ∷ 101 ∷ [])
unfolding what_text digits_text
kept_alive = refl

-- `10.0.0.1 > 10.0.0.2 fragment`
fragment_of : what_text (Listings.Fragment between) [] ≡
    from_to ++ (102 ∷ 114 ∷ 97 ∷ 103 ∷ 109 ∷ 101 ∷ 110 ∷ 116 ∷ [])
unfolding what_text digits_text
fragment_of = refl

-- `10.0.0.1 > 10.0.0.2 refused 30`
refused-message : what_text (Listings.Refused between 30) [] ≡
    from_to ++ (114 ∷ 101 ∷ 102 ∷ 117 ∷ 115 ∷ 101 ∷ 100 ∷ 32 ∷ 51 ∷ 48 ∷ [])
unfolding what_text digits_text
refused-message = refl

-- `cut short`
short_record : what_text Listings.CutShort [] ≡
    99 ∷ 117 ∷ 116 ∷ 32 ∷ 115 ∷ 104 ∷ 111 ∷ 114 ∷ 116 ∷ []
unfolding what_text
short_record = refl

-- `not IPv4`
other_record : what_text Listings.NotIpv4 [] ≡
    110 ∷ 111 ∷ 116 ∷ 32 ∷ 73 ∷ 80 ∷ 118 ∷ 52 ∷ []
unfolding what_text
other_record = refl

-- `10.0.0.1 > 10.0.0.2 exchange 2 payloads 1 1@28+92`
payloads-read : what_text (Listings.Read between 2 1) message ≡
    from_to ++ (101 ∷ 120 ∷ 99 ∷ 104 ∷ 97 ∷ 110 ∷ 103 ∷ 101 ∷ 32 ∷ 50 ∷ 32 ∷ 112 ∷ 97 ∷ 121 ∷ 108 ∷ 111 ∷ 97 ∷ 100 ∷ 115 ∷ 32 ∷ 49 ∷ 32 ∷ 49 ∷ 64 ∷
    50 ∷ 56 ∷ 43 ∷ 57 ∷ 50 ∷ [])
unfolding what_text payloads_text payload_at walk number_at digits_text
payloads-read = refl

-- `12 at 65560`
record_placed : place_text 12 65560 ≡
    49 ∷ 50 ∷ 32 ∷ 97 ∷ 116 ∷ 32 ∷ 54 ∷ 53 ∷ 53 ∷ 54 ∷ 48 ∷ []
unfolding digits_text
record_placed = refl

-- ` 1700.000042`
early_microseconds : stamp_text 1700 42 ≡
    32 ∷ 49 ∷ 55 ∷ 48 ∷ 48 ∷ 46 ∷ 48 ∷ 48 ∷ 48 ∷ 48 ∷ 52 ∷ 50 ∷ []
unfolding six_digits digits_text
early_microseconds = refl

-- `chosen set 1 line 2 transforms 3 12`
set-chosen : choice_text (Choices.Chosen (record { 0 = 1 }) (record { 0 = 2 }) (Transformed.Two (record { 0 = 3 }) (record { 0 = 12 }))) ≡
    (99 ∷ 104 ∷ 111 ∷ 115 ∷ 101 ∷ 110 ∷ 32 ∷ 115 ∷ 101 ∷ 116 ∷ 32 ∷ 49 ∷ 32 ∷ 108 ∷ 105 ∷ 110 ∷ 101 ∷ [])
    ++ (32 ∷ 50 ∷ 32 ∷ 116 ∷ 114 ∷ 97 ∷ 110 ∷ 115 ∷ 102 ∷ 111 ∷ 114 ∷ 109 ∷ 115 ∷ 32 ∷ 51 ∷ 32 ∷ 49 ∷ 50 ∷ [])
unfolding choice_text transforms_text digits_text
set-chosen = refl

-- `1000000`
many_microseconds : six_digits 1000000 ≡ decimal_text 1000000
unfolding six_digits
many_microseconds = refl
