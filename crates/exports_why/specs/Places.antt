-- What stands at places of a message's offer, by number and values.
use Rattle.std.specs.Prelude.{ℕ, List, [], ◌∷◌, not}
use Rattle.wire_read.specs.Wire.{Bytes}
use Rattle.wire_read.specs.Tests.{if◌then◌otherwise◌}
use Rattle.wire_read.specs.Answer.{Answer, done, refused}
use Rattle.message_chain.specs.Message.{message}
use Rattle.sa_fields.specs.Fields.{proposal_number, protocol, transform_number}
use Rattle.sa_items.specs.Items.{proposal, transform}
use Rattle.sa_sets.specs.Sets.{set}
use Rattle.policy_choice.specs.Choice.{sa_from}
use Rattle.policy_why.specs.Why.{message_offer, is_place}
use Rattle.policy_why.specs.Offer.{Offer}
use Rattle.policy_why.specs.Offer.{Refused, Readable}
use Rattle.policy_why.specs.declared.Places.{Places}

-- the bytes at places of an SA payload's body; the line of the places says nothing here
abbrev pub set_at : (body : Bytes) (at : Places) → Bytes
set_at body at = set at.set body

abbrev pub proposal_at : (body : Bytes) (at : Places) → Bytes
proposal_at body at = proposal at.proposal (set_at body at)

abbrev pub transform_at : (body : Bytes) (at : Places) → Bytes
transform_at body at = transform at.transform (proposal_at body at)

-- 2, the number of the set s, the protocol of its proposal p, the number of p's transform t
unfoldable pub found_values : (s p t : Bytes) → List ℕ
found_values s p t = 2 ∷ (proposal_number (proposal 0 s)).0 ∷ protocol p ∷ (transform_number t).0 ∷ []

-- 1 where there is no such place
unfoldable pub place_values : (body : Bytes) (at : Places) → List ℕ
place_values body at =
    if not (is_place body at) then 1 ∷ []
    otherwise found_values (set_at body at) (proposal_at body at) (transform_at body at)

-- of an offer that was read so: the message's refusal, or 16 where it has no SA payload
unfoldable pub offer_place : (m : Bytes) (at : Places) (offer : Offer) → Answer
offer_place m at (Refused number) = refused number
offer_place m at (Readable exchange count) = done (place_values (sa_from count 0 m) at)

unfoldable pub place_answer : (m : Bytes) (at : Places) → Answer
place_answer m at = offer_place m at (message_offer m (message m))
