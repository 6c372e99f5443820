-- What a lawful reply is, said of the bodies of the two SA payloads and with no search in it. Document 02: "it repeats one offered set with one
-- offered transform per proposal, unaltered and in the offer's order; with a book, also only if it is the choice document 01 makes".
use Rattle.std.specs.Prelude.{ℕ, ◌<◌, ◌≡◌, drop}
use Rattle.wire_read.specs.Wire.{Bytes}
use Rattle.sa_fields.specs.Fields.{proposal_number, protocol, transform_count, transform_number}
use Rattle.sa_items.specs.Items.{proposal, proposal_count, transform}
use Rattle.sa_sets.specs.Sets.{set, set_count}
use Rattle.policy_lines.specs.declared.LineNumber.{LineNumber}
use Rattle.policy_choice.specs.Choice.{choose_from}
use Rattle.policy_choice.specs.declared.Transforms.{Transforms}
use Rattle.policy_choice.specs.declared.Transforms.TheVariants.{One, Two}
use Rattle.policy_choice.specs.Choice.{Chosen}

-- the bytes of a transform behind next, reserved and length
abbrev pub content : (t : Bytes) → Bytes
content t = drop 4 t

-- "one offered transform per proposal, unaltered": q, of the reply, beside the offered proposal p
pub record RepeatsProposal (p q : Bytes) : Type 0 where
  pub same-protocol : protocol q ≡ protocol p
  pub one-transform : transform_count q ≡ 1
  pub i : ℕ
  pub offered : i < transform_count p
  pub unaltered : content (transform 0 q) ≡ content (transform i p)

-- the reply's set s beside an offered set: "in the offer's order"
pub record RepeatsSet (offered s : Bytes) : Type 0 where
  pub same_number : proposal_number (proposal 0 s) ≡ proposal_number (proposal 0 offered)
  pub as_many : proposal_count s ≡ proposal_count offered
  pub each : (j : ℕ) → j < proposal_count s → RepeatsProposal (proposal j offered) (proposal j s)

-- "repeats one offered set": the reply has one set, and that repeats set k of the offer
pub record RepeatsOffer (offer reply : Bytes) : Type 0 where
  pub one_set : set_count reply ≡ 1
  pub k : ℕ
  pub a_set : k < set_count offer
  pub repeats : RepeatsSet (set k offer) (set 0 reply)

-- these transforms are those of the set s, one for each proposal
pub data Takes (s : Bytes) : Transforms → Type 0 where
  one : proposal_count s ≡ 1 → Takes s (One (transform_number (transform 0 (proposal 0 s))))
  two : proposal_count s ≡ 2 → Takes s (Two (transform_number (transform 0 (proposal 0 s))) (transform_number (transform 0 (proposal 1 s))))

-- "the choice document 01 makes": its set, and its transforms
pub record IsChoice (exchange : ℕ) (book offer reply : Bytes) : Type 0 where
  pub line : LineNumber
  pub transforms : Transforms
  pub chosen : choose_from exchange book offer ≡ Chosen (proposal_number (proposal 0 (set 0 reply))) line transforms
  pub takes : Takes (set 0 reply) transforms
