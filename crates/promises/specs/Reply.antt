-- The reply reads back: put into a message it is readable, and holds one set with the chosen number, the offered protocols in the
-- offered order, one transform each, byte for byte the chosen one, and the own SPIs. Shut out: a reply that repeats the offer's SPI, one that
-- takes another set or transform or leaves a proposal of the set out, and one fixed reply, since two offers ask for two.
use Prim.Native.Nat.{ℕ, zero, suc, ◌+◌, ◌≤◌, ◌<◌}
use Rattle.std.specs.Prelude.{◌≡◌, take, drop}
use mathlib.Core.List.{[], ◌∷◌, ◌++◌}
use Rattle.std.proofs.Math.ListN.{length}
use Rattle.wire_read.specs.Wire.{Bytes}
use Rattle.wire_read.specs.Answer.{done}
use Rattle.wire_write.specs.Put.{bytes_of}
use Rattle.message_header.specs.Header.{exchange_of, flags_of, first_payload, version_of, header_code}
use Rattle.message_chain.specs.Message.{message, message_answer}
use Rattle.sa_fields.specs.Fields.{proposal_number, protocol, spi, transform_count, transform_number}
use Rattle.sa_sets.specs.Sets.{set, set_count}
use Rattle.sa_items.specs.Items.{proposal, proposal_count, transform}
use Rattle.sa_fields.specs.declared.ProposalNumber.{ProposalNumber}
use Rattle.sa_fields.specs.declared.TransformNumber.{TransformNumber}
use Rattle.policy_choice.specs.Choice.{sa_from}
use Rattle.policy_reply.specs.Reply.{own_spi, reply_answer}
use Rattle.policy_choice.specs.declared.Transforms.{Transforms}
use Rattle.policy_choice.specs.declared.Transforms.TheVariants.{One, Two}
use Rattle.policy_reply.specs.Reply.{Outcome}

-- ---- what is promised

-- the number of the transform chosen in proposal j
unfoldable pub chosen_number : (transforms : Transforms) (j : ℕ) → TransformNumber
chosen_number (One t) j = t
chosen_number (Two t u) zero = t
chosen_number (Two t u) (suc j) = u

-- q repeats the offered proposal p, with the transform of number t, and names an own SPI. Of the transform's bytes only the first, "next", is
-- set anew: to 0, since it is the last.
pub record Repeated (ah esp : ℕ) (number : ProposalNumber) (p : Bytes) (t : TransformNumber) (q : Bytes) : Type 0 where
  pub chosen-number : proposal_number q ≡ number
  pub same-protocol : protocol q ≡ protocol p
  pub one-transform : transform_count q ≡ 1
  pub place : ℕ
  pub offered : place < transform_count p
  pub its_number : transform_number (transform place p) ≡ t
  pub byte_for_byte : transform 0 q ≡ 0 ∷ drop 1 (transform place p)
  pub own-spi : spi q ≡ own_spi ah esp (protocol p)

-- m reads, its one payload is an SA payload of one set, and that repeats the offered set s
pub record ReadsBack (exchange ah esp : ℕ) (number : ProposalNumber) (transforms : Transforms) (s m : Bytes) : Type 0 where
  pub readable : message_answer (message m) ≡ done (exchange ∷ 1 ∷ [])
  pub one_set : set_count (sa_from 1 0 m) ≡ 1
  pub as_many : proposal_count (set 0 (sa_from 1 0 m)) ≡ proposal_count s
  pub each : (j : ℕ) → j < proposal_count s → Repeated ah esp number (proposal j s) (chosen_number transforms j) (proposal j (set 0 (sa_from 1 0 m)))

-- the header of a message of the offer's exchange with this payload, an SA payload, alone and not ciphered
pub record Around (exchange : ℕ) (payload h : Bytes) : Type 0 where
  pub header : length h ≡ 28
  pub lawful : header_code (h ++ payload) ≡ 0
  pub an_sa : first_payload h ≡ 1
  pub same-exchange : exchange_of h ≡ exchange
  pub plain : flags_of h ≡ 0

-- one such header: the offer's, with an SA payload first, no flag, and the length of the reply's message
unfoldable pub header_for : (m : Bytes) (size : ℕ) → Bytes
header_for m size = take 16 m ++ (1 ∷ version_of m ∷ exchange_of m ∷ 0 ∷ (take 4 (drop 20 m) ++ bytes_of 4 size))

-- what `reply_reads_back`, at the end, shows of r, what is answered to a choice and the buffer after it: the buffer begins with an SA payload
-- that reads back under every such header, and is else as it was
pub record TheReply (exchange count ah esp : ℕ) (m : Bytes) (number : ProposalNumber) (transforms : Transforms) (buffer : Bytes)
    (r : Outcome × Bytes) : Type 0 where
  pub payload : Bytes
  pub fits : length payload ≤ 2048
  pub answered : reply_answer r.0 ≡ done (length payload ∷ [])
  pub at_front : take (length payload) r.1 ≡ payload
  pub else_kept : drop (length payload) r.1 ≡ drop (length payload) buffer
  pub k : ℕ
  pub offered : k < set_count (sa_from count 0 m)
  pub chosen-set : proposal_number (proposal 0 (set k (sa_from count 0 m))) ≡ number
  pub a_header : Around exchange payload (header_for m (28 + length payload))
  pub reads_back : (h : Bytes) → Around exchange payload h → ReadsBack exchange ah esp number transforms (set k (sa_from count 0 m)) (h ++ payload)
