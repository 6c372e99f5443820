use Prim.Native.Nat.{ℕ}
use mathlib.Core.Path.{◌≡◌}
use mathlib.Core.List.{List, [], ◌∷◌}
use Rattle.sa_fields.specs.Fields.{proposal_number, protocol, transform_number}
use Rattle.sa_fields.specs.declared.ProposalNumber.{ProposalNumber}
use Rattle.sa_fields.specs.declared.TransformNumber.{TransformNumber}
use Rattle.sa_items.specs.Items.{proposal}
use Rattle.exports_why.specs.Places.{found_values}
use Rattle.exports_why.proofs.found_words.Goals as goal

module _ (s p t first : List ℕ) (ef : first ≡ proposal 0 s) (set : ProposalNumber) (es : set ≡ proposal_number first)
    (transform : TransformNumber) (et : transform ≡ transform_number t) where
  its-values : (its : ℕ) → its ≡ protocol p → 2 ∷ set.0 ∷ its ∷ transform.0 ∷ [] ≡ found_values s p t
  unfolding found_values
  its-values its ei = rw (← ef, ← es, ← ei, ← et)

pub returns : goal.returns
returns c = search its-values
