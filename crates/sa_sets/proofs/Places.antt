-- Which set stands at which place of a body that reads, and that its number finds it again: the numbers of sets rise.
use Prim.Native.Nat.{ℕ, zero, suc, ◌≤◌, ◌<◌}
use mathlib.Core.Path.{◌≡◌, refl, sym, ap, ◌∙◌}
use mathlib.Core.List.{List, [], ◌∷◌, ◌++◌, flatten}
use native.Mathlib.Omega.{arith}
use lib.ListN.{length, get_or, drop, length-append, get_or-append, take-append-drop}
use borrow.Author.Tests.{eq-eqb, ne_eqb}
use Rattle.sa_proposals.specs.Proposals.{offer_code}
use Rattle.sa_proposals.proofs.Laws.{Item, Rising, on, least_at, item-at}
use Rattle.sa_items.proofs.Laws.{first-item, proposals-count, proposals-place}
use Rattle.sa_fields.specs.Fields.{proposal_number}
use Rattle.wire_read.specs.Parts.{skip, parts, numbered}
use Rattle.wire_read.proofs.Parts.{parts_none, parts_more}
use Rattle.sa_items.specs.Items.{proposal, proposal_count}
use Rattle.sa_sets.specs.Sets.{set_end, first_set, after_set, set, set_count, set_numbered}
use Rattle.sa_sets.proofs.Laws.{Same, same_end, same-on, Sets, sets_end, sets-on, parted, flatten-some, alone-first, alone-after}

pub same_at : {n : ℕ} {ps : List (List ℕ)} → Same n ps → (j : ℕ) → j < length ps → get_or (get_or ps j []) 4 0 ≡ n
same_at same_end j h = absurd (omega arith)
same_at (same-on e m) zero h = e
same_at (same-on e m) (suc j) h = same_at m j (omega arith)

-- ---- sets

-- the bytes of a set: proposals that read, all of one number
pub record LawfulSet (exchange : ℕ) (s : List ℕ) : Type 0 where
  pub some : 0 < proposal_count s
  pub lawful : (j : ℕ) → j < proposal_count s → Item exchange (proposal j s)
  pub one_number : (j : ℕ) → j < proposal_count s → proposal_number (proposal j s) ≡ proposal_number (proposal 0 s)

lawful-set : {exchange least : ℕ} (p : List ℕ) (ps : List (List ℕ)) → Rising exchange least (p ∷ ps) → Same (get_or p 4 0) ps → length (p ∷ ps) ≤ 16 →
    LawfulSet exchange (flatten (p ∷ ps))
unfolding proposal_number
lawful-set p ps r m few =
    let count = proposals-count r few in
    record {
      some = omega arith;
      lawful = λ j h. rw (proposals-place r j (omega arith)) (item-at r j (omega arith));
      one_number = λ j h. rw (proposals-place r j (omega arith), proposals-place r 0 (omega arith), same_at (same-on {p = p} refl m) j (omega arith));
    }

sets-count : {exchange least : ℕ} {s : List ℕ} {gs : List (List (List ℕ))} → Sets exchange least s gs → (left : ℕ) → length gs ≤ left →
    parts after_set left s ≡ length gs
sets-count sets_end left h = parts_none after_set left
sets-count (sets-on z f r m c g) zero h = absurd (omega arith)
sets-count (sets-on {s = s} z f r m c g) (suc left) h = parts_more after_set left s z ∙ ap suc (sets-count g left (omega arith))

sets-lawful : {exchange least : ℕ} {s : List ℕ} {gs : List (List (List ℕ))} → Sets exchange least s gs → (k : ℕ) → k < length gs →
    LawfulSet exchange (first_set (skip after_set k s))
unfolding skip
sets-lawful sets_end k h = absurd (omega arith)
sets-lawful (sets-on {p = p} {ps = ps} z f r m c g) zero h = rw f (lawful-set p ps r m c)
sets-lawful (sets-on z f r m c g) (suc k) h = sets-lawful g k (omega arith)

-- a set begins with its first proposal, whose number is the set's
module _ {exchange : ℕ} (s p : List ℕ) (ps : List (List ℕ)) (f : first_set s ≡ flatten (p ∷ ps)) (item : Item exchange p) where
  begins : get_or s 4 0 ≡ get_or p 4 0
  unfolding first_set flatten
  begins =
      let whole : (p ++ flatten ps) ++ drop (set_end 16 (get_or s 4 0) s 0) s ≡ s = rw (← f) (take-append-drop (set_end 16 (get_or s 4 0) s 0) s) in
      let long : 4 < length (p ++ flatten ps) = omega (arith, length-append p (flatten ps), item.long) in
      ap (λ (l : List ℕ). get_or l 4 0) (sym whole) ∙ get_or-append (p ++ flatten ps) _ 0 4 long
      ∙ get_or-append p (flatten ps) 0 4 (omega (arith, item.long))

  first-number : get_or (proposal 0 (first_set s)) 4 0 ≡ get_or p 4 0
  unfolding proposal skip flatten
  first-number = rw (f, first-item p (flatten ps) item)

module _ {exchange : ℕ} where
  number_least : {least : ℕ} {s : List ℕ} {gs : List (List (List ℕ))} → Sets exchange least s gs → (k : ℕ) → k < length gs →
      least ≤ get_or (proposal 0 (first_set (skip after_set k s))) 4 0
  unfolding skip
  number_least sets_end k h = absurd (omega arith)
  number_least (sets-on {s = s} {p = p} {ps = ps} z f r m c g) zero h =
      omega (arith, least_at r 0 (omega arith), first-number s p ps f (item-at r 0 (omega arith)))
  number_least (sets-on z f r m c g) (suc k) h = omega (arith, least_at r 0 (omega arith), number_least g k (omega arith))

  sets-numbered : {least : ℕ} {s : List ℕ} {gs : List (List (List ℕ))} → Sets exchange least s gs → (k left : ℕ) → k < length gs → length gs ≤ left →
      numbered first_set after_set left (get_or (proposal 0 (first_set (skip after_set k s))) 4 0) s ≡ first_set (skip after_set k s)
  unfolding skip numbered
  sets-numbered sets_end k left h few = absurd (omega arith)
  sets-numbered (sets-on z f r m c g) k zero h few = absurd (omega arith)
  sets-numbered (sets-on {s = s} {p = p} {ps = ps} z f r m c g) zero (suc left) h few =
      let item = item-at r 0 (omega arith) in
      rw (eq-eqb (get_or s 4 0) (get_or (proposal 0 (first_set s)) 4 0) (begins s p ps f item ∙ sym (first-number s p ps f item)))
  sets-numbered (sets-on {s = s} {p = p} {ps = ps} z f r m c g) (suc k) (suc left) h few =
      let item = item-at r 0 (omega arith) in
      let n : ℕ = get_or (proposal 0 (first_set (skip after_set k (after_set s)))) 4 0 in
      let other : get_or s 4 0 ≡ n → ⊥ = λ e. omega (arith, begins s p ps f item, number_least g k (omega arith)) in
      rw (ne_eqb (get_or s 4 0) n other) (sets-numbered g k left (omega arith) (omega arith))

-- of a body that reads
module _ (exchange : ℕ) (body : List ℕ) (reads : offer_code exchange body ≡ 0) (k : ℕ) (h : k < set_count body) where
  a_set : k < length (parted exchange body reads).sets
  unfolding set_count
  a_set = let r = parted exchange body reads in omega (arith, sets-count r.apart 16 r.at_most)

  pub set-lawful : LawfulSet exchange (set k body)
  unfolding set
  set-lawful = sets-lawful (parted exchange body reads).apart k a_set

  pub set-by-number : set_numbered (proposal_number (proposal 0 (set k body))) body ≡ set k body
  unfolding set set_numbered proposal_number
  set-by-number = let r = parted exchange body reads in sets-numbered r.apart k 16 a_set r.at_most

-- a body whose proposals all have one number
pub record OneSet (body : List ℕ) (ps : List (List ℕ)) : Type 0 where
  pub alone : set_count body ≡ 1
  pub is : set 0 body ≡ flatten ps
  pub count : proposal_count (set 0 body) ≡ length ps
  pub place : (j : ℕ) → j < length ps → proposal j (set 0 body) ≡ get_or ps j []

module _ {exchange : ℕ} (body p : List ℕ) (ps : List (List ℕ)) (item : Item exchange p) (r : Rising exchange (get_or p 4 0) ps)
    (m : Same (get_or p 4 0) ps) (few : length (p ∷ ps) ≤ 16) (whole : drop 8 body ≡ flatten (p ∷ ps)) where
  all-rising : Rising exchange (get_or p 4 0) (p ∷ ps)
  all-rising = let least : get_or p 4 0 ≤ get_or p 4 0 = omega arith in on item least r

  one-alone : set_count body ≡ 1
  unfolding set_count
  one-alone =
      rw whole
      (parts_more after_set 15 (flatten (p ∷ ps)) (flatten-some p ps item) ∙ rw (alone-after p ps item r few m) (ap suc (parts_none after_set 15)))

  one-is : set 0 body ≡ flatten (p ∷ ps)
  unfolding set skip
  one-is = rw whole (alone-first p ps item r few m)

  pub one_set : OneSet body (p ∷ ps)
  one_set = record {
    alone = one-alone;
    is = one-is;
    count = rw one-is (proposals-count all-rising few);
    place = λ j h. rw one-is (proposals-place all-rising j h);
  }
