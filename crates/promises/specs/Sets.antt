-- Document 01: "Proposals with equal number form one set". They stand side by side in a readable offer, so that "set" is well defined:
-- the sets, joined, are the proposals in order. It is said of what the offer's functions hand out, by their own definitions.
use Prim.Native.Nat.{ℕ, zero, suc, ◌≤◌, ◌<◌}
use Rattle.std.specs.Prelude.{◌≡◌, drop, eqb}
use mathlib.Core.List.{List, [], ◌∷◌, flatten, flat_map}
use Rattle.std.proofs.Math.ListN.{length}
use Rattle.wire_read.specs.Wire.{Bytes, number_at}
use Rattle.wire_read.specs.Tests.{if◌then◌otherwise◌}
use Rattle.sa_fields.specs.Fields.{proposal_number}
use Rattle.sa_items.specs.Items.{proposal, proposal_count}
use Rattle.sa_sets.specs.Sets.{set, set_count}

-- ---- what is promised

-- part 0, part 1 and so on, n of them
unfoldable pub listed : (part : ℕ → Bytes) (n : ℕ) → List Bytes
listed part zero = []
listed part (suc n) = part 0 ∷ listed (λ k. part (suc k)) n

-- the proposals in s, and the sets of a body, as they are handed out
unfoldable pub proposals : (s : Bytes) → List Bytes
proposals s = listed (λ k. proposal k s) (proposal_count s)

unfoldable pub sets : (body : Bytes) → List Bytes
sets body = listed (λ k. set k body) (set_count body)

abbrev pub number : (p : Bytes) → ℕ
number p = (proposal_number p).0

-- those of the proposals that have number n
unfoldable pub numbered : (n : ℕ) (ps : List Bytes) → List Bytes
numbered n [] = []
numbered n (p ∷ ps) = if eqb (number p) n then p ∷ numbered n ps otherwise numbered n ps

-- the proposals in s fill it, each as long as it says; their numbers never fall; and what stands between two of a number has that number
pub record SideBySide (s : Bytes) : Type 0 where
  pub whole : flatten (proposals s) ≡ s
  pub own_length : (i : ℕ) → i < proposal_count s → number_at 2 (proposal i s) 2 ≡ length (proposal i s)
  pub never_fall : (i j : ℕ) → i ≤ j → j < proposal_count s → number (proposal i s) ≤ number (proposal j s)
  pub between : (i j k : ℕ) → i ≤ j → j ≤ k → k < proposal_count s → number (proposal i s) ≡ number (proposal k s) →
      number (proposal j s) ≡ number (proposal i s)

-- s is a set among the proposals ps: it has a proposal, is filled by those it has, all of one number, and has all of that number
pub record SetAmong (ps : List Bytes) (s : Bytes) : Type 0 where
  pub some : 0 < proposal_count s
  pub whole : flatten (proposals s) ≡ s
  pub one_number : (j : ℕ) → j < proposal_count s → number (proposal j s) ≡ number (proposal 0 s)
  pub all-of_it : proposals s ≡ numbered (number (proposal 0 s)) ps

-- what `sets_well_defined`, at the end, shows of every body that reads
pub record WellDefined (body : Bytes) : Type 0 where
  pub side_by_side : SideBySide (drop 8 body)
  pub joined : flat_map proposals (sets body) ≡ proposals (drop 8 body)
  pub whole : flatten (sets body) ≡ drop 8 body
  pub each_set : (k : ℕ) → k < set_count body → SetAmong (proposals (drop 8 body)) (set k body)
  pub rising : (k l : ℕ) → k < l → l < set_count body → number (proposal 0 (set k body)) < number (proposal 0 (set l body))
