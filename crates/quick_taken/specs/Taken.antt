-- Message 2 at an initiator that sent message 1, document 01, "Quick mode ends".
use Rattle.std.specs.Prelude.{ℕ, Bool, not, ◌||◌, ◌&&◌, eqb}
use Rattle.wire_read.specs.Wire.{Bytes, Code, equal}
use Rattle.wire_read.specs.Tests.{if◌then◌otherwise◌}
use Rattle.sa_fields.specs.Fields.{proposal_number, protocol, transform_count}
use Rattle.sa_sets.specs.Sets.{set, set_count, set_numbered}
use Rattle.sa_items.specs.Items.{proposal, proposal_count, transform}
use Rattle.policy_choice.specs.Choice.{body_at}
use Rattle.quick_shape.specs.Shapes.{shape_of}
use Rattle.quick_agreed.specs.Agreed.{spis_of, transforms_in}
use Rattle.quick_end.specs.declared.Agreed.{Agreed}

-- "protocols, order and each transform as offered": one transform, byte for byte the offered one
unfoldable pub proposal_taken : (p offered : Bytes) → Bool
proposal_taken p offered = eqb (protocol p) (protocol offered) && eqb (transform_count p) 1 && equal (transform 0 p) (transform 0 offered)

unfoldable pub set_taken : (s offered : Bytes) → Bool
set_taken s offered =
    eqb (proposal_count s) (proposal_count offered) && proposal_taken (proposal 0 s) (proposal 0 offered)
    && (eqb (proposal_count s) 1 || proposal_taken (proposal 1 s) (proposal 1 offered))

-- the set of a message 2, and the one that it has its number from in the message that was sent
unfoldable pub replied_set : (m : Bytes) → Bytes
replied_set m = set 0 (body_at 1 m)

unfoldable pub offered_set : (sent m : Bytes) → Bytes
offered_set sent m = set_numbered (proposal_number (proposal 0 (replied_set m))) (body_at 1 sent)

-- "identities equal those sent", m being of this shape
unfoldable pub identities_same : (found : ℕ) (sent m : Bytes) → Bool
identities_same found sent m =
    eqb found (shape_of sent) && (eqb found 3 || equal (body_at 3 m) (body_at 3 sent) && equal (body_at 4 m) (body_at 4 sent))

-- "one set, its number, protocols, order and each transform as offered, else 15; identities equal those sent, else 18"
unfoldable pub taken_code : (found : ℕ) (sent m : Bytes) → Code
taken_code found sent m =
    if not (eqb (set_count (body_at 1 m)) 1 && set_taken (replied_set m) (offered_set sent m)) then 15
    otherwise if not (identities_same found sent m) then 18
    otherwise 0

-- what is agreed, of the message sent and message 2
unfoldable pub agreed_two : (sent m : Bytes) → Agreed
agreed_two sent m = record {
  set = proposal_number (proposal 0 (replied_set m));
  transforms = transforms_in (replied_set m);
  initiator = spis_of (offered_set sent m);
  responder = spis_of (replied_set m);
}
