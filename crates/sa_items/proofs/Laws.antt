-- Which proposal, and which transform, stands at which place of a part that reads, and that a transform's number finds it again: the numbers
-- of a proposal's transforms rise. And how long parts are.
use Prim.Native.Nat.{ℕ, zero, suc, ◌+◌, ◌≤◌, ◌<◌}
use mathlib.Core.Path.{◌≡◌, sym, ap, ◌∙◌}
use mathlib.Core.List.{List, [], ◌++◌, flatten}
use native.Mathlib.Omega.{arith}
use lib.ListN.{length, get_or, take, drop, length-take, length-drop, length-append}
use lib.Seq.{take-append_seam, drop-append_seam}
use lib.Dec.{eqb}
use borrow.Author.Tests.{eq-eqb, ne_eqb}
use Rattle.wire_read.specs.Wire.{number_at}
use Rattle.wire_read.specs.Parts.{skip, parts, numbered}
use Rattle.wire_read.proofs.Tests.{by_test}
use Rattle.wire_read.proofs.Laws.{number_append, take_within, drop-within}
use Rattle.wire_read.proofs.Parts.{parts_none, parts_more}
use Rattle.sa_fields.specs.Fields.{transform_count, transform_number}
use Rattle.sa_fields.specs.declared.TransformNumber.{TransformNumber}
use Rattle.sa_transforms.specs.Transforms.{transforms_code}
use Rattle.sa_transforms.proofs.Laws.{LawfulTransform, first-transform, after-transform}
use Rattle.sa_proposals.specs.Proposals.{transform_bytes}
use Rattle.sa_proposals.proofs.Laws.{Item, Rising, end, on}
use Rattle.sa_items.specs.Items.{first_item, after_item, proposal, proposal_count, transform, transform_numbered}

-- ---- proposals

module _ {exchange : ℕ} (p s : List ℕ) (item : Item exchange p) where
  pub first-item : first_item (p ++ s) ≡ p
  unfolding first_item
  first-item = rw (number_append 2 p s 2 (omega arith), item.lies) (take-append_seam p s)

  pub after-item : after_item (p ++ s) ≡ s
  unfolding after_item
  after-item = rw (number_append 2 p s 2 (omega arith), item.lies) (drop-append_seam p s)

items_count : {exchange least : ℕ} {ps : List (List ℕ)} → Rising exchange least ps → (left : ℕ) → length ps ≤ left →
    parts after_item left (flatten ps) ≡ length ps
unfolding flatten
items_count end left h = parts_none after_item left
items_count (on i o r) zero h = absurd (omega arith)
items_count (on {p = p} {ps = ps} i o r) (suc left) h =
    parts_more after_item left (p ++ flatten ps) (omega (arith, length-append p (flatten ps)))
    ∙ rw (after-item p (flatten ps) i) (ap suc (items_count r left (omega arith)))

items_place : {exchange least : ℕ} {ps : List (List ℕ)} → Rising exchange least ps → (j : ℕ) → j < length ps →
    first_item (skip after_item j (flatten ps)) ≡ get_or ps j []
unfolding flatten skip
items_place end j h = absurd (omega arith)
items_place (on {p = p} {ps = ps} i o r) zero h = first-item p (flatten ps) i
items_place (on {p = p} {ps = ps} i o r) (suc j) h = rw (after-item p (flatten ps) i) (items_place r j (omega arith))

module _ {exchange least : ℕ} {ps : List (List ℕ)} (r : Rising exchange least ps) where
  pub proposals-count : length ps ≤ 16 → proposal_count (flatten ps) ≡ length ps
  unfolding proposal_count
  proposals-count few = items_count r 16 few

  pub proposals-place : (j : ℕ) → j < length ps → proposal j (flatten ps) ≡ get_or ps j []
  unfolding proposal
  proposals-place j h = items_place r j h

-- ---- transforms

module _ (exchange : ℕ) where
  -- transform k of n that read, and its number
  transform-at : (n least : ℕ) (s : List ℕ) → transforms_code n exchange least s ≡ 0 → (k : ℕ) → k < n →
      LawfulTransform exchange (first_item (skip after_item k s)) × (least ≤ get_or (first_item (skip after_item k s)) 4 0)
  unfolding skip first_item after_item
  transform-at zero least s h k l = absurd (omega arith)
  transform-at (suc n) least s h zero l =
      let f = first-transform exchange n least s (after-transform n exchange least s h).0 in
      (f.0, omega (arith, f.1))
  transform-at (suc n) least s h (suc k) l =
      let a = after-transform n exchange least s h in
      let f = first-transform exchange n least s a.0 in
      let r = transform-at n (get_or s 4 0 + 1) (drop (number_at 2 s 2) s) a.1 k (omega arith) in
      (r.0, omega (arith, f.1, r.1))

  transforms-numbered : (n least : ℕ) (s : List ℕ) → transforms_code n exchange least s ≡ 0 → (k left : ℕ) → k < n → n ≤ left →
      numbered first_item after_item left (get_or (first_item (skip after_item k s)) 4 0) s ≡ first_item (skip after_item k s)
  unfolding skip numbered first_item after_item
  transforms-numbered zero least s h k left l few = absurd (omega arith)
  transforms-numbered (suc n) least s h k zero l few = absurd (omega arith)
  transforms-numbered (suc n) least s h zero (suc left) l few =
      let f = first-transform exchange n least s (after-transform n exchange least s h).0 in
      let t : List ℕ = take (number_at 2 s 2) s in
      rw (eq-eqb (get_or s 4 0) (get_or t 4 0) (sym f.2))
  transforms-numbered (suc n) least s h (suc k) (suc left) l few =
      let a = after-transform n exchange least s h in
      let rest : List ℕ = drop (number_at 2 s 2) s in
      let r = transform-at n (get_or s 4 0 + 1) rest a.1 k (omega arith) in
      let m : ℕ = get_or (first_item (skip after_item k rest)) 4 0 in
      let other : get_or s 4 0 ≡ m → ⊥ = λ e. omega (arith, r.1) in
      rw (ne_eqb (get_or s 4 0) m other) (transforms-numbered n (get_or s 4 0 + 1) rest a.1 k left (omega arith) (omega arith))

  transforms-rise : (n least : ℕ) (s : List ℕ) → transforms_code n exchange least s ≡ 0 → (j k : ℕ) → j < k → k < n →
      get_or (first_item (skip after_item j s)) 4 0 < get_or (first_item (skip after_item k s)) 4 0
  unfolding skip first_item after_item
  transforms-rise zero least s h j k l m = absurd (omega arith)
  transforms-rise (suc n) least s h j zero l m = absurd (omega arith)
  transforms-rise (suc n) least s h zero (suc k) l m =
      let a = after-transform n exchange least s h in
      omega (
        arith,
        (first-transform exchange n least s a.0).2,
        (transform-at n (get_or s 4 0 + 1) (drop (number_at 2 s 2) s) a.1 k (omega arith)).1,
      )
  transforms-rise (suc n) least s h (suc j) (suc k) l m =
      transforms-rise n (get_or s 4 0 + 1) (drop (number_at 2 s 2) s) (after-transform n exchange least s h).1 j k (omega arith) (omega arith)

-- "numbers strictly rising", in a proposal that reads
pub numbers-rise : (exchange : ℕ) (p : List ℕ) → Item exchange p → (j k : ℕ) → j < k → k < transform_count p →
    (transform_number (transform j p)).0 < (transform_number (transform k p)).0
unfolding transform transform_count transform_number
numbers-rise exchange p item j k l m = transforms-rise exchange (get_or p 7 0) 0 (transform_bytes p) item.transforms j k l m

-- of a proposal that reads
module _ (exchange : ℕ) (p : List ℕ) (item : Item exchange p) (k : ℕ) (h : k < transform_count p) where
  pub transform-lawful : LawfulTransform exchange (transform k p)
  unfolding transform transform_count
  transform-lawful = (transform-at exchange (get_or p 7 0) 0 (transform_bytes p) item.transforms k h).0

  pub transform-by-number : transform_numbered (transform_number (transform k p)) p ≡ transform k p
  unfolding transform transform_count transform_numbered transform_number
  transform-by-number = transforms-numbered exchange (get_or p 7 0) 0 (transform_bytes p) item.transforms k 8 h item.at_most

-- ---- parts are no longer than the whole

pub numbered_within : (first rest : List ℕ → List ℕ) → ((s : List ℕ) → length (first s) ≤ length s) → ((s : List ℕ) → length (rest s) ≤ length s) →
    (left number : ℕ) (s : List ℕ) → length (numbered first rest left number s) ≤ length s
unfolding numbered
numbered_within first rest f r zero number s = omega arith
numbered_within first rest f r (suc left) number s =
    by_test (eqb (get_or s 4 0) number) (λ e. rw e (f s)) (λ e. rw e (omega (arith, numbered_within first rest f r left number (rest s), r s)))

first-within : (s : List ℕ) → length (first_item s) ≤ length s
unfolding first_item
first-within s = take_within (number_at 2 s 2) s

after-within : (s : List ℕ) → length (after_item s) ≤ length s
unfolding after_item
after-within s = drop-within (number_at 2 s 2) s

pub transform-within : (number : TransformNumber) (p : List ℕ) → length (transform_numbered number p) ≤ length p
unfolding transform_numbered transform_bytes
transform-within number p =
    omega (
      arith,
      numbered_within first_item after_item first-within after-within 8 number.0 (transform_bytes p),
      drop-within (8 + get_or p 6 0) (take (number_at 2 p 2) p),
      take_within (number_at 2 p 2) p,
    )

-- the first two proposals lie one behind the other
pub two-within : (s : List ℕ) → length (proposal 0 s) + length (proposal 1 s) ≤ length s
unfolding proposal first_item after_item skip
two-within s =
    omega (
      arith,
      length-take (number_at 2 s 2) s,
      length-drop (number_at 2 s 2) s,
      take_within (number_at 2 (drop (number_at 2 s 2) s) 2) (drop (number_at 2 s 2) s),
    )
