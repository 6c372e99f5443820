-- A law for each way out of the functions on items.
use Prim.Native.Nat.{ℕ, zero, suc, ◌-◌}
use mathlib.Core.Path.{◌≡◌, refl}
use mathlib.Core.List.{List}
use native.Mathlib.Omega.{arith}
use lib.ListN.{get_or, take, drop}
use lib.Dec.{eqb}
use borrow.Author.Tests.{eq-eqb, ne_eqb}
use Rattle.wire_read.specs.Tests.{if◌then◌otherwise◌}
use Rattle.wire_read.specs.Wire.{number_at}
use Rattle.wire_read.specs.Parts.{skip, numbered}
use Rattle.sa_fields.specs.declared.TransformNumber.{TransformNumber}
use Rattle.sa_proposals.specs.Proposals.{transform_bytes}
use Rattle.sa_items.specs.Items.{first_item, after_item, proposal, transform, transform_numbered}

module _ (s r : List ℕ) (n : ℕ) (en : n ≡ number_at 2 s 2) where
  pub item-first : r ≡ take n s → r ≡ first_item s
  unfolding first_item
  item-first er = rw (← en) er

  pub item-after : r ≡ drop n s → r ≡ after_item s
  unfolding after_item
  item-after er = rw (← en) er

pub proposal-at : (k : ℕ) (set rest r : List ℕ) → r ≡ first_item rest → rest ≡ skip after_item k set → r ≡ proposal k set
unfolding proposal
proposal-at k set rest r er es = rw (← es) er

module _ (p all r : List ℕ) (ea : all ≡ transform_bytes p) where
  pub transform-at : (k : ℕ) (rest : List ℕ) → r ≡ first_item rest → rest ≡ skip after_item k all → r ≡ transform k p
  unfolding transform
  transform-at k rest er es = rw (← ea, ← es) er

  pub transform-of-number : (number : TransformNumber) → r ≡ numbered first_item after_item 8 number.0 all → r ≡ transform_numbered number p
  unfolding transform_numbered
  transform-of-number number er = rw (← ea) er
