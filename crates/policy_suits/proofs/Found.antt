-- What the lowest transform that was found, or none, says of a proposal.
use Prim.Native.Nat.{ℕ, ◌-◌}
use mathlib.Core.Path.{◌≡◌, sym, ◌∙◌}
use mathlib.Core.List.{List}
use mathlib.Core.Bool.{true, false}
use Rattle.wire_read.proofs.Tests.{never, by_test}
use Rattle.sa_fields.specs.Fields.{transform_number}
use Rattle.sa_fields.specs.declared.TransformNumber.{TransformNumber}
use Rattle.sa_items.specs.Items.{transform}
use Rattle.std.specs.Prelude.{None, Some}
use Rattle.policy_suits.specs.Suits.{lowest, has_transform, lowest_transform}

module _ (exchange i : ℕ) (book p : List ℕ) where
  pub none_found : lowest_transform exchange i book p ≡ None → has_transform exchange i book p ≡ false
  unfolding lowest_transform
  none_found h =
      by_test (has_transform exchange i book p)
      (λ e. let bad : None ≡ Some (transform_number (transform (lowest exchange i book p - 1) p)) = sym h ∙ rw e in never (cc))
      (λ e. e)

  pub lowest-found : (number : TransformNumber) → lowest_transform exchange i book p ≡ Some number →
      (has_transform exchange i book p ≡ true) × (number ≡ transform_number (transform (lowest exchange i book p - 1) p))
  unfolding lowest_transform
  lowest-found number h =
      by_test (has_transform exchange i book p)
      (λ e. let same : Some number ≡ Some (transform_number (transform (lowest exchange i book p - 1) p)) = sym h ∙ rw e in (e, cc))
      (λ e. let bad : Some number ≡ None = sym h ∙ rw e in never (cc))
