-- What a body that reads holds: sets that are not empty, each of one proposal or two, and what a number finds in it. A number finds no bytes
-- unless it stands at the front of a set, or of a transform, since behind the last of them nothing is left.
use Prim.Native.Nat.{ℕ, zero, suc, ◌≤◌, ◌<◌}
use mathlib.Core.Path.{◌≡◌, ap, ◌∙◌}
use mathlib.Core.List.{List, [], ◌∷◌}
use native.Mathlib.Omega.{arith}
use lib.ListN.{length, get_or, take, drop}
use lib.Seq.{drop-nil}
use borrow.Author.Tests.{ne_eqb}
use Rattle.wire_read.specs.Wire.{number_at}
use Rattle.wire_read.specs.Parts.{skip}
use Rattle.wire_read.proofs.Laws.{take_within}
use Rattle.wire_read.proofs.Parts.{parts_more}
use Rattle.sa_transforms.specs.Transforms.{transforms_code}
use Rattle.sa_transforms.proofs.Laws.{after-transform}
use Rattle.sa_proposals.specs.Proposals.{none, transform_bytes, offer_code}
use Rattle.sa_proposals.proofs.Laws.{Item, first-lawful}
use Rattle.sa_fields.specs.Fields.{proposal_number, transform_count, transform_number}
use Rattle.sa_fields.specs.declared.ProposalNumber.{ProposalNumber}
use Rattle.sa_fields.specs.declared.TransformNumber.{TransformNumber}
use Rattle.sa_items.specs.Items.{first_item, after_item, proposal, proposal_count, transform, transform_numbered}
use Rattle.sa_items.proofs.Laws.{transform-lawful, two-within}
use Rattle.sa_sets.specs.Sets.{set_end, first_set, after_set, set, set_count, set_numbered}
use Rattle.sa_sets.proofs.Laws.{parted}
use Rattle.sa_sets.proofs.Places.{set-lawful}
use Rattle.sa_proposals.proofs.Known.{known_of}
use Rattle.sa_found.proofs.Numbered.{found, skip-none, skip-some, front_byte}
use Rattle.sa_found.proofs.Apart.{one-exchange, offer-proposals, after-proposal, sets-few}

-- ---- what is taken off the front: a proposal or a transform, and a set

after_no_item : after_item [] ≡ []
unfolding after_item
after_no_item = drop-nil (number_at 2 [] 2)

first-item-some : (s : List ℕ) → 0 < length (first_item s) → 0 < length s
unfolding first_item
first-item-some s h = omega (arith, take_within (number_at 2 s 2) s)

item-number : (s : List ℕ) → 8 ≤ length (first_item s) → get_or (first_item s) 4 0 ≡ get_or s 4 0
unfolding first_item
item-number s long = front_byte (number_at 2 s 2) s 4 (omega arith)

after_no_set : after_set [] ≡ []
unfolding after_set
after_no_set = drop-nil (set_end 16 0 [] 0)

first-set-some : (s : List ℕ) → 0 < length (first_set s) → 0 < length s
unfolding first_set
first-set-some s h = omega (arith, take_within (set_end 16 (get_or s 4 0) s 0) s)

set-number : (s : List ℕ) → 8 ≤ length (proposal 0 (first_set s)) → get_or (proposal 0 (first_set s)) 4 0 ≡ get_or s 4 0
unfolding proposal skip first_set
set-number s long = item-number (first_set s) long ∙ front_byte (set_end 16 (get_or s 4 0) s 0) s 4 (omega (arith, two-within (first_set s)))

-- ---- the proposal at the front of a body

front_lawful : (exchange : ℕ) (body : List ℕ) → offer_code exchange body ≡ 0 → Item exchange (take (number_at 2 (drop 8 body) 2) (drop 8 body))
front_lawful exchange body reads =
    first-lawful exchange 0 none (drop 8 body) (after-proposal 15 exchange 0 none (drop 8 body) (offer-proposals exchange body reads)).0

-- the protocols of a body tell its exchange
pub exchange-known : (x y : ℕ) (body : List ℕ) → offer_code x body ≡ 0 → offer_code y body ≡ 0 → x ≡ y
exchange-known x y body h g = one-exchange (known_of x _ (front_lawful x body h).known) (known_of y _ (front_lawful y body g).known)

-- ---- sets

pub record FoundSet (body : List ℕ) (number : ProposalNumber) : Type 0 where
  pub k : ℕ
  pub a_set : k < set_count body
  pub is : set_numbered number body ≡ set k body
  pub its_number : proposal_number (proposal 0 (set k body)) ≡ number

-- of a body that reads
module _ (exchange : ℕ) (body : List ℕ) (reads : offer_code exchange body ≡ 0) where
  -- it has a set, and no set is empty
  pub some-set : 0 < set_count body
  unfolding set_count
  some-set =
      let s : List ℕ = drop 8 body in
      omega (arith, parts_more after_set 15 s (omega (arith, (front_lawful exchange body reads).long, take_within (number_at 2 s 2) s)))

  first-long : (k : ℕ) → k < set_count body → 8 ≤ length (proposal 0 (set k body))
  first-long k h = let lawful = set-lawful exchange body reads k h in (lawful.lawful 0 lawful.some).long

  pub set-some : (k : ℕ) → k < set_count body → 0 < length (set k body)
  set-some k h = omega (arith, first-long k h, two-within (set k body))

  -- a set has one proposal or two: ISAKMP alone, or AH and ESP at most, none of them twice
  pub set-few : (k : ℕ) → k < set_count body → proposal_count (set k body) ≤ 2
  unfolding set set_count
  set-few k h = sets-few (parted exchange body reads).apart (λ some. (16, 0, none, offer-proposals exchange body reads)) k 16 h

  -- what a number finds: the set that has it, where it finds something
  pub set_found : (number : ProposalNumber) → (length (set_numbered number body) ≡ 0 → ⊥) → FoundSet body number
  unfolding set set_count set_numbered proposal_number
  set_found number some =
      let f = found first_set after_set 16 number.0 (drop 8 body) some in
      let s : List ℕ = skip after_set f.place (drop 8 body) in
      let bytes : 0 < length s = first-set-some s (omega (arith, ap length f.is)) in
      let counted : f.place < set_count body = skip-some after_set after_no_set f.place 16 (drop 8 body) f.below bytes in
      record {
        k = f.place;
        a_set = counted;
        is = f.is;
        its_number = ap (λ (n : ℕ). record { 0 = n }) (set-number s (first-long f.place counted) ∙ f.its_number);
      }

-- ---- transforms

pub record FoundTransform (p : List ℕ) (number : TransformNumber) : Type 0 where
  pub i : ℕ
  pub offered : i < transform_count p
  pub is : transform_numbered number p ≡ transform i p
  pub its_number : transform_number (transform i p) ≡ number

-- nothing is left behind the last transform
transforms-within : (exchange n least : ℕ) (s : List ℕ) → transforms_code n exchange least s ≡ 0 → (k : ℕ) → 0 < length (skip after_item k s) → k < n
unfolding skip after_item transforms_code
transforms-within exchange zero least [] h k some = absurd (omega (arith, ap length (skip-none after_item after_no_item k)))
transforms-within exchange zero least (b ∷ s) h k some = absurd (omega (arith, rw (ne_eqb (length (b ∷ s)) 0 (λ z. omega arith)) at h))
transforms-within exchange (suc n) least s h zero some = omega arith
transforms-within exchange (suc n) least s h (suc k) some =
    omega (arith, transforms-within exchange n _ (after_item s) (after-transform n exchange least s h).1 k some)

-- of a proposal that reads: what a number finds
pub transform-found : (exchange : ℕ) (p : List ℕ) → Item exchange p → (number : TransformNumber) → (length (transform_numbered number p) ≡ 0 → ⊥) →
    FoundTransform p number
unfolding transform transform_count transform_numbered transform_number
transform-found exchange p item number some =
    let f = found first_item after_item 8 number.0 (transform_bytes p) some in
    let s : List ℕ = skip after_item f.place (transform_bytes p) in
    let bytes : 0 < length s = first-item-some s (omega (arith, ap length f.is)) in
    let offered : f.place < transform_count p = transforms-within exchange (get_or p 7 0) 0 (transform_bytes p) item.transforms f.place bytes in
    record {
      i = f.place;
      offered = offered;
      is = f.is;
      its_number = ap (λ (n : ℕ). record { 0 = n }) (item-number s (transform-lawful exchange p item f.place offered).long ∙ f.its_number);
    }
