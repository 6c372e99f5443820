-- What a body that reads consists of: proposals one behind the other, with numbers that never fall, and in each its transforms.
use Prim.Native.Nat.{ℕ, zero, suc, ◌+◌, ◌≤◌, ◌<◌}
use mathlib.Core.Path.{◌≡◌, sym, ◌∙◌}
use mathlib.Core.List.{List, [], ◌∷◌, flatten}
use mathlib.Core.Bool.{Bool, false, not, ◌||◌}
use native.Mathlib.Omega.{arith}
use lib.ListN.{length, get_or, take, drop, take-append-drop}
use lib.Seq.{length-take-le, get_or-take, take_all, take-take}
use lib.Dec.{ltb, leb, eqb}
use borrow.Author.Tests.{ltb-false, leb-true, eqb-true, eqb-false, not-false}
use Rattle.wire_read.specs.Wire.{number_at}
use Rattle.wire_read.proofs.Tests.{neither, both, by_test, passed}
use Rattle.wire_read.proofs.Laws.{number-take}
use Rattle.sa_transforms.specs.Transforms.{transforms_code}
use Rattle.sa_proposals.specs.Proposals.{proposal_wrong, has, set_before, none, order_wrong, protocol_wrong, spi_wrong, count_wrong, transform_bytes, inner_code, proposal_code, proposals_code, offer_code}
use Rattle.sa_proposals.specs.declared.Protocols.{Protocols}

-- bytes that are one proposal, by the length that it states, with a protocol of the exchange and its 1 to 8 transforms
pub record Item (exchange : ℕ) (p : List ℕ) : Type 0 where
  pub long : 8 ≤ length p
  pub lies : number_at 2 p 2 ≡ length p
  pub known : protocol_wrong exchange (get_or p 5 0) ≡ false
  pub some : 1 ≤ get_or p 7 0
  pub at_most : get_or p 7 0 ≤ 8
  pub transforms : transforms_code (get_or p 7 0) exchange 0 (transform_bytes p) ≡ 0

-- proposals whose numbers never fall, the first at least the least
pub data Rising (exchange : ℕ) : ℕ → List (List ℕ) → Type 0 where
  end : {least : ℕ} → Rising exchange least []
  on : {least : ℕ} {p : List ℕ} {ps : List (List ℕ)} → Item exchange p → least ≤ get_or p 4 0 → Rising exchange (get_or p 4 0) ps → Rising exchange least (p ∷ ps)

pub least_at : {exchange least : ℕ} {ps : List (List ℕ)} → Rising exchange least ps → (j : ℕ) → j < length ps → least ≤ get_or (get_or ps j []) 4 0
least_at end j h = absurd (omega arith)
least_at (on i o r) zero h = o
least_at (on i o r) (suc j) h = omega (arith, least_at r j (omega arith))

pub item-at : {exchange least : ℕ} {ps : List (List ℕ)} → Rising exchange least ps → (j : ℕ) → j < length ps → Item exchange (get_or ps j [])
item-at end j h = absurd (omega arith)
item-at (on i o r) zero h = i
item-at (on i o r) (suc j) h = item-at r j (omega arith)

-- s is at most so many such proposals and nothing else
pub record Reads (exchange left least : ℕ) (s : List ℕ) : Type 0 where
  pub items : List (List ℕ)
  pub whole : flatten items ≡ s
  pub rising : Rising exchange least items
  pub few : length items ≤ left

-- what the checks on lengths and numbers leave
record Bounds (previous : ℕ) (s : List ℕ) : Type 0 where
  pub long : 8 ≤ number_at 2 s 2
  pub within : number_at 2 s 2 ≤ length s
  pub ordered : previous ≤ get_or s 4 0

-- and those on what the proposal holds
record Sound (exchange previous : ℕ) (s : List ℕ) : Type 0 where
  pub bounds : Bounds previous s
  pub known : protocol_wrong exchange (get_or s 5 0) ≡ false
  pub counted : count_wrong s ≡ false
  pub transforms : transforms_code (get_or s 7 0) exchange 0 (transform_bytes s) ≡ 0

fits : (previous : ℕ) (set : Protocols) (s : List ℕ) → proposal_wrong s ≡ false → order_wrong previous set s ≡ false → Bounds previous s
unfolding proposal_wrong order_wrong
fits previous set s w o =
    let start : Bool = ltb (length s) 8 || not (eqb (get_or s 0 0) 0 || eqb (get_or s 0 0) 2) || not (eqb (get_or s 1 0) 0) in
    let short : Bool = ltb (number_at 2 s 2) (8 + get_or s 6 0) in
    let ends = neither (start || short) (ltb (length s) (number_at 2 s 2)) w in
    let long = neither start short ends.0 in
    let order = neither (ltb (get_or s 4 0) previous) (has (set_before previous set (get_or s 4 0)) (get_or s 5 0)) o in
    record { long = omega (arith, ltb-false (number_at 2 s 2) (8 + get_or s 6 0) long.1); within = ltb-false _ _ ends.1; ordered = ltb-false _ _ order.0 }

inner : (exchange : ℕ) (s : List ℕ) → inner_code exchange s ≡ 0 → transforms_code (get_or s 7 0) exchange 0 (transform_bytes s) ≡ 0
unfolding inner_code
inner exchange s h =
    let code : ℕ = transforms_code (get_or s 7 0) exchange 0 (transform_bytes s) in
    by_test (eqb code 0) (λ e. eqb-true code 0 e) (λ e. absurd (eqb-false code 0 e (rw e at h)))

sound : (exchange previous : ℕ) (set : Protocols) (s : List ℕ) → proposal_code exchange previous set s ≡ 0 → Sound exchange previous s
unfolding proposal_code
sound exchange previous set s h =
    let right = passed (proposal_wrong s) 15 _ (λ z. omega arith) h in
    let ordered = passed (order_wrong previous set s) 15 _ (λ z. omega arith) right.1 in
    let known = passed (protocol_wrong exchange (get_or s 5 0)) 10 _ (λ z. omega arith) ordered.1 in
    let keyed = passed (spi_wrong exchange s) 11 _ (λ z. omega arith) known.1 in
    let counted = passed (count_wrong s) 15 _ (λ z. omega arith) keyed.1 in
    record { bounds = fits previous set s right.0 ordered.0; known = known.0; counted = counted.0; transforms = inner exchange s counted.1 }

counts : (s : List ℕ) → count_wrong s ≡ false → (1 ≤ get_or s 7 0) × (get_or s 7 0 ≤ 8)
unfolding count_wrong
counts s h =
    let two = both (leb 1 (get_or s 7 0)) (leb (get_or s 7 0) 8) (not-false _ h) in
    (leb-true _ _ two.0, leb-true _ _ two.1)

-- the proposal at the front of what has passed
module _ (exchange previous : ℕ) (s : List ℕ) (o : Sound exchange previous s) where
  same_byte : (k : ℕ) → k < 8 → get_or (take (number_at 2 s 2) s) k 0 ≡ get_or s k 0
  same_byte k h = get_or-take (number_at 2 s 2) s k 0 (omega (arith, o.bounds.long))

  same_size : number_at 2 (take (number_at 2 s 2) s) 2 ≡ number_at 2 s 2
  same_size = number-take 2 (number_at 2 s 2) s 2 (omega (arith, o.bounds.long))

  same-transforms : transform_bytes (take (number_at 2 s 2) s) ≡ transform_bytes s
  unfolding transform_bytes
  same-transforms = rw (same_size, same_byte 6 (omega arith), take-take (number_at 2 s 2) (number_at 2 s 2) s (omega arith))

  first_length : length (take (number_at 2 s 2) s) ≡ number_at 2 s 2
  first_length = length-take-le (number_at 2 s 2) s o.bounds.within

  item : Item exchange (take (number_at 2 s 2) s)
  item =
      let seventh = same_byte 7 (omega arith) in
      let few = counts s o.counted in
      record {
        long = omega (arith, first_length, o.bounds.long);
        lies = same_size ∙ sym first_length;
        known = rw (same_byte 5 (omega arith)) o.known;
        some = rw seventh few.0;
        at_most = rw seventh few.1;
        transforms = rw (seventh, same-transforms) o.transforms;
      }

-- a proposal that is not refused, whatever follows it
pub first-lawful : (exchange previous : ℕ) (set : Protocols) (s : List ℕ) → proposal_code exchange previous set s ≡ 0 → Item exchange (take (number_at 2 s 2) s)
first-lawful exchange previous set s h = item exchange previous s (sound exchange previous set s h)

module _ (exchange left previous : ℕ) (s : List ℕ) where
  reads_none : length s ≡ 0 → Reads exchange left previous s
  unfolding flatten
  reads_none z = record { items = []; whole = take_all 0 s (omega arith); rising = end; few = omega arith }

  reads_on : Sound exchange previous s → Reads exchange left (get_or s 4 0) (drop (number_at 2 s 2) s) → Reads exchange (suc left) previous s
  unfolding flatten
  reads_on o r =
      let n : ℕ = number_at 2 s 2 in
      let number : get_or (take n s) 4 0 ≡ get_or s 4 0 = same_byte exchange previous s o 4 (omega arith) in
      let order : previous ≤ get_or (take n s) 4 0 = omega (arith, o.bounds.ordered) in
      let rest : Rising exchange (get_or (take n s) 4 0) r.items = rw number r.rising in
      record {
        items = take n s ∷ r.items;
        whole = rw r.whole (take-append-drop n s);
        rising = on (item exchange previous s o) order rest;
        few = omega (arith, r.few);
      }

-- one proposal after the other: nothing lies between them
reads : (left exchange previous : ℕ) (set : Protocols) (s : List ℕ) → proposals_code left exchange previous set s ≡ 0 → Reads exchange left previous s
unfolding proposals_code
reads zero exchange previous set s h = absurd (omega arith)
reads (suc left) exchange previous set s h =
    let rest : List ℕ = drop (number_at 2 s 2) s in
    by_test (eqb (proposal_code exchange previous set s) 0)
    (λ e. reads_on exchange left previous s (sound exchange previous set s (eqb-true _ _ e)) (by_test (eqb (get_or s 0 0) 0)
    (λ z. by_test (eqb (length rest) 0) (λ y. reads_none exchange left (get_or s 4 0) rest (eqb-true _ _ y)) (λ y. absurd (omega (arith, rw (e, z, y) at h))))
    (λ z. reads left exchange _ _ _ (rw (e, z) at h))))
    (λ e. absurd (eqb-false _ _ e (rw e at h)))

-- the same of a body
pub offer-reads : (exchange : ℕ) (body : List ℕ) → offer_code exchange body ≡ 0 → Reads exchange 16 0 (drop 8 body)
unfolding offer_code
offer-reads exchange body h =
    by_test (ltb (length body) 8) (λ a. absurd (omega (arith, rw a at h)))
    (λ a. by_test (eqb (number_at 4 body 0) 1)
    (λ b. by_test (eqb (number_at 4 body 4) 1)
    (λ c. reads 16 exchange 0 none (drop 8 body) (rw (a, b, c) at h))
    (λ c. absurd (omega (arith, rw (a, b, c) at h))))
    (λ b. absurd (omega (arith, rw (a, b) at h))))
