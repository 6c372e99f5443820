-- What first_set and after_set take off a body that reads: its sets, each of proposals with one number.
use Prim.Native.Nat.{ℕ, zero, suc, ◌+◌, ◌≤◌, ◌<◌}
use mathlib.Core.Path.{◌≡◌, refl, sym, ap, ◌∙◌}
use mathlib.Core.List.{List, [], ◌∷◌, ◌++◌, append_assoc, append-nil, flatten}
use mathlib.Core.Bool.{true, false}
use native.Mathlib.Omega.{arith}
use lib.ListN.{length, get_or, drop, length-append, get_or-append}
use lib.Seq.{get_or-append-add, take-append_seam, drop-append_seam}
use lib.Dec.{ltb, eqb}
use borrow.Author.Tests.{eqb-true, eqb-false, eq-eqb, lt-ltb, le-ltb}
use Rattle.wire_read.specs.Wire.{number_at}
use Rattle.wire_read.specs.Tests.{if◌then◌otherwise◌}
use Rattle.wire_read.proofs.Tests.{by_test}
use Rattle.wire_read.proofs.Laws.{number_append, number-append_add, take_within, drop-within}
use Rattle.sa_proposals.specs.Proposals.{offer_code}
use Rattle.sa_items.proofs.Laws.{numbered_within}
use Rattle.sa_sets.specs.Sets.{set_end, first_set, after_set, set_numbered}
use Rattle.sa_fields.specs.declared.ProposalNumber.{ProposalNumber}
use Rattle.sa_proposals.proofs.Laws.{Item, Rising, end, on, offer-reads}

-- ---- the sets

-- every proposal has number n
pub data Same : ℕ → List (List ℕ) → Type 0 where
  same_end : {n : ℕ} → Same n []
  same-on : {n : ℕ} {p : List ℕ} {ps : List (List ℕ)} → get_or p 4 0 ≡ n → Same n ps → Same n (p ∷ ps)

-- the proposals with number n at the front, and those behind them
front : ℕ → List (List ℕ) → List (List ℕ)
front n [] = []
front n (p ∷ ps) = if eqb (get_or p 4 0) n then p ∷ front n ps otherwise []

back : ℕ → List (List ℕ) → List (List ℕ)
back n [] = []
back n (p ∷ ps) = if eqb (get_or p 4 0) n then back n ps otherwise p ∷ ps

module _ (n : ℕ) where
  front_back : (ps : List (List ℕ)) → front n ps ++ back n ps ≡ ps
  unfolding front back
  front_back [] = refl
  front_back (p ∷ ps) = by_test (eqb (get_or p 4 0) n) (λ e. rw e (ap (λ (l : List (List ℕ)). p ∷ l) (front_back ps))) (λ e. rw e)

  front_few : (ps : List (List ℕ)) → length (front n ps) ≤ length ps
  front_few ps = omega (arith, length-append (front n ps) (back n ps), ap length (front_back ps))

  back_few : (ps : List (List ℕ)) → length (back n ps) ≤ length ps
  back_few ps = omega (arith, length-append (front n ps) (back n ps), ap length (front_back ps))

  front_rising : {exchange least : ℕ} {ps : List (List ℕ)} → Rising exchange least ps → Rising exchange least (front n ps)
  unfolding front
  front_rising end = end
  front_rising (on {p = p} i o r) = by_test (eqb (get_or p 4 0) n) (λ e. rw e (on i o (front_rising r))) (λ e. rw e end)

  back_rising : {exchange least : ℕ} {ps : List (List ℕ)} → Rising exchange least ps → n ≤ least → Rising exchange (suc n) (back n ps)
  unfolding back
  back_rising end h = end
  back_rising (on {p = p} i o r) h =
      by_test (eqb (get_or p 4 0) n) (λ e. rw e (back_rising r (omega arith)))
      (λ e. let above : suc n ≤ get_or p 4 0 = omega (arith, eqb-false (get_or p 4 0) n e) in rw e (on i above r))

  front_same : (ps : List (List ℕ)) → Same n (front n ps)
  unfolding front
  front_same [] = same_end
  front_same (p ∷ ps) = by_test (eqb (get_or p 4 0) n) (λ e. rw e (same-on (eqb-true (get_or p 4 0) n e) (front_same ps))) (λ e. rw e same_end)

  same_front : {ps : List (List ℕ)} → Same n ps → front n ps ≡ ps
  unfolding front
  same_front same_end = refl
  same_front (same-on {p = p} {ps = ps} e m) = rw (eq-eqb (get_or p 4 0) n e) (ap (λ (l : List (List ℕ)). p ∷ l) (same_front m))

  same_back : {ps : List (List ℕ)} → Same n ps → back n ps ≡ []
  unfolding back
  same_back same_end = refl
  same_back (same-on {p = p} e m) = rw (eq-eqb (get_or p 4 0) n e) (same_back m)

flatten-append : (xs ys : List (List ℕ)) → flatten (xs ++ ys) ≡ flatten xs ++ flatten ys
unfolding flatten
flatten-append [] ys = refl
flatten-append (x ∷ xs) ys = rw (flatten-append xs ys) (sym (append_assoc x (flatten xs) (flatten ys)))

-- set_end goes by places: it ends behind the proposals at the front
set-end : (n : ℕ) {exchange : ℕ} (a : List ℕ) {least : ℕ} {ps : List (List ℕ)} → Rising exchange least ps → (left : ℕ) → length ps ≤ left →
    set_end left n (a ++ flatten ps) (length a) ≡ length a + length (flatten (front n ps))
unfolding set_end front flatten
set-end n a end zero h = omega arith
set-end n a end (suc left) h =
    let over : ltb (length (a ++ [])) (length a + 8) ≡ true = rw append-nil (lt-ltb (length a) (length a + 8) (omega arith)) in
    rw over (omega arith)
set-end n a (on {p = p} {ps = ps} i o r) zero h = absurd (omega arith)
set-end n a (on {p = p} {ps = ps} i o r) (suc left) h =
    let room : length a + 8 ≤ length (a ++ (p ++ flatten ps)) = omega (arith, length-append a (p ++ flatten ps), length-append p (flatten ps)) in
    let long : ltb (length (a ++ (p ++ flatten ps))) (length a + 8) ≡ false = le-ltb _ _ room in
    let number : get_or (a ++ (p ++ flatten ps)) (length a + 4) 0 ≡ get_or p 4 0 =
    get_or-append-add a (p ++ flatten ps) 4 0 ∙ get_or-append p (flatten ps) 0 4 (omega arith) in
    let size : number_at 2 (a ++ (p ++ flatten ps)) (length a + 2) ≡ length p =
    number-append_add 2 a (p ++ flatten ps) 2 ∙ number_append 2 p (flatten ps) 2 (omega arith) ∙ i.lies in
    by_test (eqb (get_or p 4 0) n) (λ e. rw (long, number, e, size, ← append_assoc a p (flatten ps), ← length-append a p)
    (set-end n (a ++ p) r left (omega arith) ∙ omega (arith, length-append a p, length-append p (flatten (front n ps)))))
    (λ e. rw (long, number, e) (omega arith))

module _ {exchange : ℕ} (p : List ℕ) (ps : List (List ℕ)) (item : Item exchange p) (r : Rising exchange (get_or p 4 0) ps) (few : length (p ∷ ps) ≤ 16) where
  set-whole : flatten (p ∷ ps) ≡ flatten (p ∷ front (get_or p 4 0) ps) ++ flatten (back (get_or p 4 0) ps)
  set-whole = ap (λ (l : List (List ℕ)). flatten (p ∷ l)) (sym (front_back (get_or p 4 0) ps)) ∙ flatten-append (p ∷ front (get_or p 4 0) ps) (back (get_or p 4 0) ps)

  set-first-end : set_end 16 (get_or (flatten (p ∷ ps)) 4 0) (flatten (p ∷ ps)) 0 ≡ length (flatten (p ∷ front (get_or p 4 0) ps))
  unfolding flatten front
  set-first-end =
      let number : get_or (p ++ flatten ps) 4 0 ≡ get_or p 4 0 = get_or-append p (flatten ps) 0 4 (omega arith) in
      let least : get_or p 4 0 ≤ get_or p 4 0 = omega arith in
      let same : eqb (get_or p 4 0) (get_or p 4 0) ≡ true = eq-eqb (get_or p 4 0) (get_or p 4 0) refl in
      rw number (set-end (get_or p 4 0) [] (on item least r) 16 few ∙ rw same (omega arith))

  first-set : first_set (flatten (p ∷ ps)) ≡ flatten (p ∷ front (get_or p 4 0) ps)
  unfolding first_set
  first-set = rw (set-first-end, set-whole) (take-append_seam (flatten (p ∷ front (get_or p 4 0) ps)) (flatten (back (get_or p 4 0) ps)))

  after-set : after_set (flatten (p ∷ ps)) ≡ flatten (back (get_or p 4 0) ps)
  unfolding after_set
  after-set = rw (set-first-end, set-whole) (drop-append_seam (flatten (p ∷ front (get_or p 4 0) ps)) (flatten (back (get_or p 4 0) ps)))

  -- proposals of one number are one set, and nothing follows it
  pub alone-first : Same (get_or p 4 0) ps → first_set (flatten (p ∷ ps)) ≡ flatten (p ∷ ps)
  alone-first m = first-set ∙ ap (λ (l : List (List ℕ)). flatten (p ∷ l)) (same_front (get_or p 4 0) m)

  pub alone-after : Same (get_or p 4 0) ps → after_set (flatten (p ∷ ps)) ≡ []
  unfolding flatten
  alone-after m = after-set ∙ ap (λ (l : List (List ℕ)). flatten l) (same_back (get_or p 4 0) m)

-- the sets of bytes that read, as they are taken off one by one: each of one number, the numbers rising
pub data Sets (exchange : ℕ) : ℕ → List ℕ → List (List (List ℕ)) → Type 0 where
  sets_end : {least : ℕ} → Sets exchange least [] []
  sets-on : {least : ℕ} {s p : List ℕ} {ps : List (List ℕ)} {gs : List (List (List ℕ))} →
      0 < length s → first_set s ≡ flatten (p ∷ ps) → Rising exchange least (p ∷ ps) → Same (get_or p 4 0) ps → length (p ∷ ps) ≤ 16
      → Sets exchange (suc (get_or p 4 0)) (after_set s) gs → Sets exchange least s ((p ∷ ps) ∷ gs)

-- the proposals, one list a set
grouped : ℕ → List (List ℕ) → List (List (List ℕ))
grouped zero ps = []
grouped (suc left) [] = []
grouped (suc left) (p ∷ ps) = (p ∷ front (get_or p 4 0) ps) ∷ grouped left (back (get_or p 4 0) ps)

grouped_few : (left : ℕ) (ps : List (List ℕ)) → length (grouped left ps) ≤ left
unfolding grouped
grouped_few zero ps = omega arith
grouped_few (suc left) [] = omega arith
grouped_few (suc left) (p ∷ ps) = omega (arith, grouped_few left (back (get_or p 4 0) ps))

grouped_joined : (left : ℕ) (ps : List (List ℕ)) → length ps ≤ left → flatten (grouped left ps) ≡ ps
unfolding grouped flatten
grouped_joined zero [] h = refl
grouped_joined zero (p ∷ ps) h = absurd (omega arith)
grouped_joined (suc left) [] h = refl
grouped_joined (suc left) (p ∷ ps) h =
    ap (λ (l : List (List ℕ)). p ∷ l) (rw (grouped_joined left (back (get_or p 4 0) ps) (omega (arith, back_few (get_or p 4 0) ps))) (front_back (get_or p 4 0) ps))

pub flatten-some : {exchange : ℕ} (p : List ℕ) (ps : List (List ℕ)) → Item exchange p → 0 < length (flatten (p ∷ ps))
unfolding flatten
flatten-some p ps i = omega (arith, length-append p (flatten ps))

grouped_sets : (left : ℕ) {exchange least : ℕ} {ps : List (List ℕ)} → Rising exchange least ps → length ps ≤ left → length ps ≤ 16 →
    Sets exchange least (flatten ps) (grouped left ps)
unfolding grouped
grouped_sets zero end h few = unfold flatten in sets_end
grouped_sets zero (on i o r) h few = absurd (omega arith)
grouped_sets (suc left) end h few = unfold flatten in sets_end
grouped_sets (suc left) {exchange} (on {p = p} {ps = ps} i o r) h few =
    let n : ℕ = get_or p 4 0 in
    let fewer : length (p ∷ front n ps) ≤ 16 = omega (arith, front_few n ps) in
    let rest : Sets exchange (suc n) (flatten (back n ps)) (grouped left (back n ps)) =
    grouped_sets left (back_rising n r (omega arith)) (omega (arith, back_few n ps)) (omega (arith, back_few n ps)) in
    sets-on (flatten-some p ps i) (first-set p ps i r few) (on i o (front_rising n r)) (front_same n ps) fewer (rw (← after-set p ps i r few) at rest)

-- a readable offer: its proposals, and the same by sets
pub record Parted (exchange : ℕ) (body : List ℕ) : Type 0 where
  pub proposals : List (List ℕ)
  pub whole : flatten proposals ≡ drop 8 body
  pub rising : Rising exchange 0 proposals
  pub few : length proposals ≤ 16
  pub sets : List (List (List ℕ))
  pub joined : flatten sets ≡ proposals
  pub apart : Sets exchange 0 (drop 8 body) sets
  pub at_most : length sets ≤ 16

pub parted : (exchange : ℕ) (body : List ℕ) → offer_code exchange body ≡ 0 → Parted exchange body
parted exchange body h =
    let r = offer-reads exchange body h in
    let sets : Sets exchange 0 (flatten r.items) (grouped 16 r.items) = grouped_sets 16 r.rising r.few r.few in
    record {
      proposals = r.items;
      whole = r.whole;
      rising = r.rising;
      few = r.few;
      sets = grouped 16 r.items;
      joined = grouped_joined 16 r.items r.few;
      apart = rw r.whole at sets;
      at_most = grouped_few 16 r.items;
    }

-- ---- parts are no longer than the whole

first-set-within : (s : List ℕ) → length (first_set s) ≤ length s
unfolding first_set
first-set-within s = take_within (set_end 16 (get_or s 4 0) s 0) s

after-set-within : (s : List ℕ) → length (after_set s) ≤ length s
unfolding after_set
after-set-within s = drop-within (set_end 16 (get_or s 4 0) s 0) s

pub set-within : (number : ProposalNumber) (body : List ℕ) → length (set_numbered number body) ≤ length body
unfolding set_numbered
set-within number body =
    omega (arith, numbered_within first_set after_set first-set-within after-set-within 16 number.0 (drop 8 body), drop-within 8 body)
