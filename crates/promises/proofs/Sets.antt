-- The sets of every readable offer are well defined (specs/Sets.antt says what that is): `sets_well_defined`, at the end.
use Prim.Native.Nat.{ℕ, zero, suc, ◌≤◌, ◌<◌}
use Rattle.std.specs.Prelude.{◌≡◌, drop, eqb}
use Rattle.std.proofs.Math.Path.{refl, sym, ap}
use Rattle.std.proofs.Common.{◌∙◌, arith, length-append, take-append-drop, eq-eqb, ne_eqb}
use mathlib.Core.List.{List, [], ◌∷◌, ◌++◌, append-nil, flatten, flat_map, map}
use Rattle.std.proofs.Math.ListN.{length, get_or, length-map, get_or-map}
use Rattle.wire_read.specs.Wire.{Bytes, number_at}
use Rattle.wire_read.proofs.Tests.{by_test}
use Rattle.sa_proposals.specs.Proposals.{offer_code}
use Rattle.sa_fields.specs.Fields.{proposal_number}
use Rattle.wire_read.specs.Parts.{skip, parts}
use Rattle.sa_items.specs.Items.{first_item, after_item, proposal, proposal_count}
use Rattle.sa_sets.specs.Sets.{set_end, first_set, after_set, set, set_count}
use Rattle.sa_proposals.proofs.Laws.{Rising, end, on, least_at, item-at}
use Rattle.sa_items.proofs.Laws.{first-item, after-item}
use Rattle.sa_sets.proofs.Laws.{Same, same_end, same-on, Sets, sets_end, sets-on, Parted, parted}
use Rattle.sa_sets.proofs.Places.{same_at}
use Rattle.promises.specs.Sets.{listed, proposals, sets, number, numbered, SideBySide, SetAmong, WellDefined}

-- ---- lists of what is handed out

length_listed : (part : ℕ → Bytes) (n : ℕ) → length (listed part n) ≡ n
unfolding listed
length_listed part zero = refl
length_listed part (suc n) = ap suc (length_listed (λ k. part (suc k)) n)

at_listed : (part : ℕ → Bytes) (n k : ℕ) → k < n → get_or (listed part n) k [] ≡ part k
unfolding listed
at_listed part zero k h = absurd (omega arith)
at_listed part (suc n) zero h = refl
at_listed part (suc n) (suc k) h = at_listed (λ j. part (suc j)) n k (omega arith)

module _ (part : ℕ → Bytes) (n : ℕ) (l : List Bytes) (e : listed part n ≡ l) where
  count-of : n ≡ length l
  count-of = sym (length_listed part n) ∙ ap length e

  part_of : (k : ℕ) → k < n → part k ≡ get_or l k []
  part_of k h = sym (at_listed part n k h) ∙ ap (λ (x : List Bytes). get_or x k []) e

module _ (first rest : Bytes → Bytes) where
  abbrev handed : (left : ℕ) (s : Bytes) → List Bytes
  handed left s = listed (λ k. first (skip rest k s)) (parts rest left s)

  handed-none : (left : ℕ) → handed left [] ≡ []
  unfolding listed parts
  handed-none zero = refl
  handed-none (suc left) = refl

  handed-on : (left : ℕ) (s : Bytes) → 0 < length s → handed (suc left) s ≡ first s ∷ handed left (rest s)
  unfolding listed parts skip
  handed-on left s h =
      let some : parts rest (suc left) s ≡ suc (parts rest left (rest s)) = rw (ne_eqb (length s) 0 (λ z. omega arith)) (omega arith) in
      rw some

-- ---- proposals

items_listed : {exchange least : ℕ} {ps : List Bytes} → Rising exchange least ps → (left : ℕ) → length ps ≤ left →
    handed first_item after_item left (flatten ps) ≡ ps
unfolding flatten
items_listed end left h = handed-none first_item after_item left
items_listed (on i o r) zero h = absurd (omega arith)
items_listed (on {p = p} {ps = ps} i o r) (suc left) h =
    handed-on first_item after_item left (p ++ flatten ps) (omega (arith, length-append p (flatten ps)))
    ∙ rw (first-item p (flatten ps) i, after-item p (flatten ps) i) (ap (λ (l : List Bytes). p ∷ l) (items_listed r left (omega arith)))

proposals-of : {exchange least : ℕ} {ps : List Bytes} → Rising exchange least ps → length ps ≤ 16 → proposals (flatten ps) ≡ ps
unfolding proposals proposal proposal_count
proposals-of r few = items_listed r 16 few

rising-at : {exchange least : ℕ} {ps : List Bytes} → Rising exchange least ps → (i j : ℕ) → i ≤ j → j < length ps →
    get_or (get_or ps i []) 4 0 ≤ get_or (get_or ps j []) 4 0
rising-at end i j h g = absurd (omega arith)
rising-at (on i o r) zero zero h g = omega arith
rising-at (on i o r) zero (suc k) h g = least_at r k (omega arith)
rising-at (on i o r) (suc j) zero h g = absurd (omega arith)
rising-at (on i o r) (suc j) (suc k) h g = rising-at r j k (omega arith) (omega arith)

module _ (s : Bytes) (ps : List Bytes) (e : proposals s ≡ ps) where
  count : proposal_count s ≡ length ps
  unfolding proposals
  count = count-of (λ k. proposal k s) (proposal_count s) ps e

  place : (k : ℕ) → k < proposal_count s → proposal k s ≡ get_or ps k []
  unfolding proposals
  place = part_of (λ k. proposal k s) (proposal_count s) ps e

  side_by_side : {exchange least : ℕ} → flatten ps ≡ s → Rising exchange least ps → SideBySide s
  unfolding proposal_number
  side_by_side w r = record {
    whole = ap flatten e ∙ w;
    own_length = lengths;
    never_fall = falls;
    between = λ i j k a b c same. omega (arith, falls i j a (omega arith), falls j k b c);
  }
    where
      lengths : (i : ℕ) → i < proposal_count s → number_at 2 (proposal i s) 2 ≡ length (proposal i s)
      lengths i h = rw (place i h) (item-at r i (omega (arith, count))).lies

      falls : (i j : ℕ) → i ≤ j → j < proposal_count s → number (proposal i s) ≤ number (proposal j s)
      falls i j h g = rw (place i (omega arith), place j g) (rising-at r i j h (omega (arith, count)))

-- ---- sets

sets-listed : {exchange least : ℕ} {s : Bytes} {gs : List (List Bytes)} → Sets exchange least s gs → (left : ℕ) → length gs ≤ left →
    handed first_set after_set left s ≡ map flatten gs
sets-listed sets_end left h = handed-none first_set after_set left
sets-listed (sets-on z f r m c g) zero h = absurd (omega arith)
sets-listed (sets-on {s = s} {gs = gs} z f r m c g) (suc left) h =
    handed-on first_set after_set left s z ∙ rw (f, sets-listed g left (omega arith))

-- the bytes of the sets, and the proposals in each
set_rest : (s : Bytes) → first_set s ++ after_set s ≡ s
unfolding first_set after_set
set_rest s = take-append-drop (set_end 16 (get_or s 4 0) s 0) s

sets-whole : {exchange least : ℕ} {s : Bytes} {gs : List (List Bytes)} → Sets exchange least s gs → flatten (map flatten gs) ≡ s
unfolding flatten
sets-whole sets_end = refl
sets-whole (sets-on {s = s} z f r m c g) = rw (← f, sets-whole g) (set_rest s)

sets-proposals : {exchange least : ℕ} {s : Bytes} {gs : List (List Bytes)} → Sets exchange least s gs → flat_map proposals (map flatten gs) ≡ flatten gs
unfolding flatten flat_map
sets-proposals sets_end = refl
sets-proposals (sets-on z f r m c g) = rw (proposals-of r c, sets-proposals g)

-- one set's proposals, as a list
record Group (g : List Bytes) : Type 0 where
  some : 0 < length g
  read : proposals (flatten g) ≡ g
  same : Same (get_or (get_or g 0 []) 4 0) g

group_at : {exchange least : ℕ} {s : Bytes} {gs : List (List Bytes)} → Sets exchange least s gs → (k : ℕ) → k < length gs → Group (get_or gs k [])
group_at sets_end k h = absurd (omega arith)
group_at (sets-on z f r m c g) zero h = record { some = omega arith; read = proposals-of r c; same = same-on refl m }
group_at (sets-on z f r m c g) (suc k) h = group_at g k (omega arith)

first-at : {exchange least : ℕ} {s : Bytes} {gs : List (List Bytes)} → Sets exchange least s gs → (k : ℕ) → k < length gs →
    least ≤ get_or (get_or (get_or gs k []) 0 []) 4 0
first-at sets_end k h = absurd (omega arith)
first-at (sets-on z f r m c g) zero h = least_at r 0 (omega arith)
first-at (sets-on z f r m c g) (suc k) h = omega (arith, least_at r 0 (omega arith), first-at g k (omega arith))

apart_at : {exchange least : ℕ} {s : Bytes} {gs : List (List Bytes)} → Sets exchange least s gs → (k l : ℕ) → k < l → l < length gs →
    get_or (get_or (get_or gs k []) 0 []) 4 0 < get_or (get_or (get_or gs l []) 0 []) 4 0
apart_at sets_end k l h i = absurd (omega arith)
apart_at (sets-on z f r m c g) k zero h i = absurd (omega arith)
apart_at (sets-on z f r m c g) zero (suc l) h i = omega (arith, first-at g l (omega arith))
apart_at (sets-on z f r m c g) (suc k) (suc l) h i = apart_at g k l (omega arith) (omega arith)

-- ---- those with one number

module _ (n : ℕ) where
  numbered-append : (ps qs : List Bytes) → numbered n (ps ++ qs) ≡ numbered n ps ++ numbered n qs
  unfolding numbered
  numbered-append [] qs = refl
  numbered-append (p ∷ ps) qs =
      by_test (eqb (number p) n) (λ e. rw e (ap (λ (l : List Bytes). p ∷ l) (numbered-append ps qs))) (λ e. rw e (numbered-append ps qs))

  numbered-same : {ps : List Bytes} → Same n ps → numbered n ps ≡ ps
  unfolding numbered proposal_number
  numbered-same same_end = refl
  numbered-same (same-on {p = p} e m) = rw (eq-eqb (get_or p 4 0) n e) (ap (λ (l : List Bytes). p ∷ l) (numbered-same m))

  numbered-other : {m : ℕ} {ps : List Bytes} → Same m ps → (m ≡ n → ⊥) → numbered n ps ≡ []
  unfolding numbered proposal_number
  numbered-other same_end h = refl
  numbered-other (same-on {p = p} e m) h = rw (ne_eqb (get_or p 4 0) n (λ x. h (sym e ∙ x))) (numbered-other m h)

  numbered_above : {exchange least : ℕ} {s : Bytes} {gs : List (List Bytes)} → Sets exchange least s gs → n < least → numbered n (flatten gs) ≡ []
  unfolding flatten
  numbered_above sets_end h = unfold numbered in refl
  numbered_above (sets-on {p = p} {ps = ps} {gs = gs} z f r m c g) h =
      let above : n < get_or p 4 0 = omega (arith, least_at r 0 (omega arith)) in
      numbered-append (p ∷ ps) (flatten gs) ∙ rw (numbered-other (same-on {p = p} refl m) (λ x. omega arith), numbered_above g (omega arith))

all-at : {exchange least : ℕ} {s : Bytes} {gs : List (List Bytes)} → Sets exchange least s gs → (k : ℕ) → k < length gs →
    numbered (get_or (get_or (get_or gs k []) 0 []) 4 0) (flatten gs) ≡ get_or gs k []
unfolding flatten
all-at sets_end k h = absurd (omega arith)
all-at (sets-on {p = p} {ps = ps} {gs = gs} z f r m c g) zero h =
    numbered-append (get_or p 4 0) (p ∷ ps) (flatten gs)
    ∙ rw (numbered-same (get_or p 4 0) (same-on {p = p} refl m), numbered_above (get_or p 4 0) g (omega arith)) (append-nil (p ∷ ps))
all-at (sets-on {p = p} {ps = ps} {gs = gs} z f r m c g) (suc k) h =
    let n : ℕ = get_or (get_or (get_or gs k []) 0 []) 4 0 in
    let other : get_or p 4 0 ≡ n → ⊥ = λ x. omega (arith, first-at g k (omega arith)) in
    numbered-append n (p ∷ ps) (flatten gs) ∙ rw (numbered-other n (same-on {p = p} refl m) other) (all-at g k (omega arith))

module _ (s : Bytes) (g : List Bytes) (e : s ≡ flatten g) (o : Group g) where
  set_first : proposal 0 s ≡ get_or g 0 []
  set_first = place s g (rw e o.read) 0 (omega (arith, count s g (rw e o.read), o.some))

  set_among : (ps : List Bytes) → numbered (get_or (get_or g 0 []) 4 0) ps ≡ g → SetAmong ps s
  unfolding proposal_number
  set_among ps a =
      let listing : proposals s ≡ g = rw e o.read in
      record {
        some = omega (arith, count s g listing, o.some);
        whole = ap flatten listing ∙ sym e;
        one_number = λ j h. rw (set_first, place s g listing j h) (same_at o.same j (omega (arith, count s g listing)));
        all-of_it = rw set_first (listing ∙ sym a);
      }

module _ {exchange : ℕ} (body : Bytes) (r : Parted exchange body) where
  listing : proposals (drop 8 body) ≡ r.proposals
  listing = rw (← r.whole) (proposals-of r.rising r.few)

  set-listing : sets body ≡ map flatten r.sets
  unfolding sets set set_count
  set-listing = sets-listed r.apart 16 r.at_most

  set-count : set_count body ≡ length r.sets
  unfolding sets
  set-count = count-of (λ k. set k body) (set_count body) (map flatten r.sets) set-listing ∙ length-map r.sets flatten

  set-place : (k : ℕ) → k < set_count body → set k body ≡ flatten (get_or r.sets k [])
  unfolding sets flatten
  set-place k h = part_of (λ k. set k body) (set_count body) (map flatten r.sets) set-listing k h ∙ get_or-map flatten r.sets k []

  well_defined : WellDefined body
  unfolding proposal_number
  well_defined = record {
    side_by_side = side_by_side (drop 8 body) r.proposals listing r.whole r.rising;
    joined = ap (λ (l : List Bytes). flat_map proposals l) set-listing ∙ sets-proposals r.apart ∙ r.joined ∙ sym listing;
    whole = ap flatten set-listing ∙ sets-whole r.apart;
    each_set = each;
    rising = λ k l h i. rw (first k (omega arith), first l i) (apart_at r.apart k l h (omega (arith, set-count)));
  }
    where
      group : (k : ℕ) → k < set_count body → Group (get_or r.sets k [])
      group k h = group_at r.apart k (omega (arith, set-count))

      first : (k : ℕ) → k < set_count body → proposal 0 (set k body) ≡ get_or (get_or r.sets k []) 0 []
      first k h = set_first (set k body) (get_or r.sets k []) (set-place k h) (group k h)

      each : (k : ℕ) → k < set_count body → SetAmong (proposals (drop 8 body)) (set k body)
      each k h = set_among (set k body) (get_or r.sets k []) (set-place k h) (group k h) (proposals (drop 8 body))
          (rw (listing, ← r.joined) (all-at r.apart k (omega (arith, set-count))))

-- the sets of every readable offer are well defined
pub sets_well_defined : (exchange : ℕ) (body : Bytes) → offer_code exchange body ≡ 0 → WellDefined body
sets_well_defined exchange body h = well_defined body (parted exchange body h)
