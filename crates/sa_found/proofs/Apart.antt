-- Which protocols the proposals of a body that reads have: those of the exchange, and in a set none twice. So a set has two proposals at most.
-- The sets of protocols are those that proposals_code keeps; their type is sa_proposals' own, so it is written `_`.
use Prim.Native.Nat.{ℕ, zero, suc, ◌+◌, ◌≤◌, ◌<◌}
use mathlib.Core.Path.{◌≡◌, refl, sym, ap, ◌∙◌}
use mathlib.Core.List.{List, ◌∷◌, ◌++◌, append_assoc, flatten}
use mathlib.Core.Bool.{Bool, true, false, not, ◌||◌, ◌&&◌, and-false}
use native.Mathlib.Omega.{arith}
use lib.ListN.{length, get_or, drop, length-append, get_or-append, take-append-drop}
use lib.Dec.{ltb, eqb}
use borrow.Author.Tests.{eqb-true, eqb-false, eq-eqb, ne_eqb}
use Rattle.wire_read.specs.Wire.{number_at}
use Rattle.wire_read.specs.Tests.{if◌then◌otherwise◌}
use Rattle.wire_read.specs.Parts.{skip, parts}
use Rattle.wire_read.proofs.Tests.{clash, neither, by_test, passed}
use Rattle.wire_read.proofs.Parts.{parts_none, parts_more}
use Rattle.sa_proposals.specs.Proposals.{proposal_wrong, has, with, none, set_before, order_wrong, proposal_code, proposals_code, offer_code}
use Rattle.sa_proposals.proofs.Laws.{Item, Rising, end, on}
use Rattle.sa_proposals.proofs.Known.{Known, isakmp, ah-of, esp-of, known_of}
use Rattle.sa_items.specs.Items.{after_item, proposal_count}
use Rattle.sa_items.proofs.Laws.{after-item, proposals-count}
use Rattle.sa_sets.specs.Sets.{set_end, first_set, after_set}
use Rattle.sa_sets.proofs.Laws.{Same, same_end, same-on, Sets, sets_end, sets-on}

-- ---- the exchanges and their protocols

pub one-exchange : {x y protocol : ℕ} → Known x protocol → Known y protocol → x ≡ y
one-exchange isakmp isakmp = refl
one-exchange ah-of ah-of = refl
one-exchange esp-of esp-of = refl

-- ---- one proposal after the other

pub offer-proposals : (exchange : ℕ) (body : List ℕ) → offer_code exchange body ≡ 0 → proposals_code 16 exchange 0 none (drop 8 body) ≡ 0
unfolding offer_code
offer-proposals exchange body h =
    let long = passed (ltb (length body) 8) 15 _ (λ z. omega arith) h in
    let doi = passed (not (eqb (number_at 4 body 0) 1)) 2 _ (λ z. omega arith) long.1 in
    (passed (not (eqb (number_at 4 body 4) 1)) 3 _ (λ z. omega arith) doi.1).1

-- the proposal at the front is not refused, and what is behind it reads on
pub after-proposal : (left exchange previous : ℕ) (set : _) (s : List ℕ) → proposals_code (suc left) exchange previous set s ≡ 0 →
    (proposal_code exchange previous set s ≡ 0) × (0 < length (drop (number_at 2 s 2) s) →
    proposals_code left exchange (get_or s 4 0) (with (set_before previous set (get_or s 4 0)) (get_or s 5 0)) (drop (number_at 2 s 2) s) ≡ 0)
unfolding proposals_code
after-proposal left exchange previous set s h =
    let rest : List ℕ = drop (number_at 2 s 2) s in
    by_test (eqb (proposal_code exchange previous set s) 0)
    (λ e. (
      eqb-true _ _ e,
      λ some. by_test (eqb (get_or s 0 0) 0)
          (λ z. absurd (omega (arith, rw (e, z, ne_eqb (length rest) 0 (λ y. omega arith)) at h)))
          (λ z. rw (e, z) at h),
    ))
    (λ e. absurd (eqb-false _ _ e (rw e at h)))

-- its protocol is new in its set
first_new : (exchange previous : ℕ) (set : _) (s : List ℕ) → proposal_code exchange previous set s ≡ 0 →
    has (set_before previous set (get_or s 4 0)) (get_or s 5 0) ≡ false
unfolding proposal_code order_wrong
first_new exchange previous set s h =
    let right = passed (proposal_wrong s) 15 _ (λ z. omega arith) h in
    let ordered = passed (order_wrong previous set s) 15 _ (λ z. omega arith) right.1 in
    (neither (ltb (get_or s 4 0) previous) _ ordered.0).1

-- both of a proposal p with t behind it
step : {exchange : ℕ} {p : List ℕ} → Item exchange p → (t : List ℕ) (left previous : ℕ) (set : _) →
    proposals_code left exchange previous set (p ++ t) ≡ 0 →
    (has (set_before previous set (get_or p 4 0)) (get_or p 5 0) ≡ false) × (0 < length t → (m : ℕ)
    × (proposals_code m exchange (get_or p 4 0) (with (set_before previous set (get_or p 4 0)) (get_or p 5 0)) t ≡ 0))
unfolding after_item proposals_code
step i t zero previous set h = absurd (omega arith)
step {exchange} {p} i t (suc left) previous set h =
    let number : get_or (p ++ t) 4 0 ≡ get_or p 4 0 = get_or-append p t 0 4 (omega (arith, i.long)) in
    let protocol : get_or (p ++ t) 5 0 ≡ get_or p 5 0 = get_or-append p t 0 5 (omega (arith, i.long)) in
    let a = after-proposal left exchange previous set (p ++ t) h in
    let new = first_new exchange previous set (p ++ t) a.0 in
    (rw (number, protocol) at new, λ some. (left, rw (number, protocol, after-item p t i) at (a.1 (rw (after-item p t i) some))))

-- ---- what a set has

-- an exchange has two protocols at most, this one and the next
lowest : ℕ → ℕ
lowest exchange = if eqb exchange 2 then 1 otherwise 2

known_near : {exchange protocol : ℕ} → Known exchange protocol → (lowest exchange ≤ protocol) × (protocol ≤ lowest exchange + 1)
unfolding lowest
known_near isakmp = (omega arith, omega arith)
known_near ah-of = (omega arith, omega arith)
known_near esp-of = (omega arith, omega arith)

has-own : {exchange protocol : ℕ} → Known exchange protocol → has (with none protocol) protocol ≡ true
unfolding has with none
has-own isakmp = refl
has-own ah-of = refl
has-own esp-of = refl

split : (a b c : Bool) → ((a || b) && c) ≡ false → ((a && c) ≡ false) × ((b && c) ≡ false)
split true b c h = (h, rw h (and-false b))
split false b c h = (refl, h)

-- what a set with one protocol more lacks: the set lacks it, and it is not that one
lacks : (set : _) (p q : ℕ) → has (with set p) q ≡ false → (has set q ≡ false) × (has (with none p) q ≡ false)
unfolding has with none
lacks set p q h =
    let third = neither _ _ h in
    let two = neither _ _ third.0 in
    let first = split set.isakmp (eqb p 1) (eqb q 1) two.0 in
    let second = split set.ah (eqb p 2) (eqb q 2) two.1 in
    let last = split set.esp (eqb p 3) (eqb q 3) third.1 in
    (rw (first.0, second.0, last.0), rw (first.1, second.1, last.1))

-- the same where the next proposal has the same number
lacks_before : (n m : ℕ) (set : _) (p q : ℕ) → m ≡ n → has (set_before n (with set p) m) q ≡ false →
    (has set q ≡ false) × (has (with none p) q ≡ false)
unfolding set_before
lacks_before n m set p q e h = lacks set p q (rw (eq-eqb m n e) at h)

other : {exchange p q : ℕ} → Known exchange p → has (with none p) q ≡ false → p ≡ q → ⊥
other {p = p} k h e = clash (sym h ∙ ap (has (with none p)) (sym e) ∙ has-own k)

-- ---- one set

-- bytes that are read as proposals behind others
abbrev Reading : (exchange : ℕ) (s : List ℕ) → Type 0
Reading exchange s = (left : ℕ) × (previous : ℕ) × (set : _) × (proposals_code left exchange previous set s ≡ 0)

known-item : {exchange : ℕ} {p : List ℕ} → Item exchange p → Known exchange (get_or p 5 0)
known-item {exchange} {p} i = known_of exchange (get_or p 5 0) i.known

-- three proposals of one number would have three protocols
never_three : {exchange : ℕ} {p q r : List ℕ} (t : List ℕ) → Item exchange p → Item exchange q → Item exchange r → get_or q 4 0 ≡ get_or p 4 0 →
    get_or r 4 0 ≡ get_or p 4 0 → Reading exchange (p ++ (q ++ (r ++ t))) → ⊥
never_three {exchange} {p} {q} {r} t i j k e f (left, previous, set, h) =
    let behind = (step i (q ++ (r ++ t)) left previous set h).1 (omega (arith, length-append q (r ++ t), j.long)) in
    let second = step j (r ++ t) _ _ _ behind.1 in
    let third = step k t _ _ _ (second.1 (omega (arith, length-append r t, k.long))).1 in
    let not-p = lacks_before (get_or p 4 0) (get_or q 4 0) _ (get_or p 5 0) (get_or q 5 0) e second.0 in
    let not-q = lacks_before (get_or q 4 0) (get_or r 4 0) _ (get_or q 5 0) (get_or r 5 0) (f ∙ sym e) third.0 in
    let nor-p = lacks_before (get_or p 4 0) (get_or q 4 0) _ (get_or p 5 0) (get_or r 5 0) e not-q.0 in
    let a = known-item i in
    let b = known-item j in
    omega (arith, other a not-p.1, other b not-q.1, other a nor-p.1, known_near a, known_near b, known_near (known-item k))

one_or_two : {exchange least : ℕ} {p : List ℕ} {ps : List (List ℕ)} (t : List ℕ) → Rising exchange least (p ∷ ps) → Same (get_or p 4 0) ps →
    Reading exchange (flatten (p ∷ ps) ++ t) → length (p ∷ ps) ≤ 2
unfolding flatten
one_or_two t rising same_end reading = omega arith
one_or_two t rising (same-on e same_end) reading = omega arith
one_or_two {p = p} t (on i a (on j b (on k c rising))) (same-on {p = q} e (same-on {p = r} {ps = ps} f same)) reading =
    absurd (never_three (flatten ps ++ t) i j k e f
    (rw (append_assoc p (q ++ (r ++ flatten ps)) t, append_assoc q (r ++ flatten ps) t, append_assoc r (flatten ps) t) at reading))

-- what is behind a set
past : {exchange least : ℕ} {ps : List (List ℕ)} (t : List ℕ) → Rising exchange least ps → Reading exchange (flatten ps ++ t) →
    0 < length t → Reading exchange t
unfolding flatten
past t end reading some = reading
past t (on {p = p} {ps = ps} i o rising) (left, previous, set, h) some =
    let rest : List ℕ = flatten ps ++ t in
    let behind = (step i rest left previous set (rw (append_assoc p (flatten ps) t) at h)).1 (omega (arith, length-append (flatten ps) t)) in
    past t rising (behind.0, get_or p 4 0, _, behind.1) some

-- ---- all sets

set-whole : (s : List ℕ) {first : List ℕ} → first_set s ≡ first → s ≡ first ++ after_set s
unfolding first_set after_set
set-whole s e = rw (← e) (sym (take-append-drop (set_end 16 (get_or s 4 0) s 0) s))

pub sets-few : {exchange least : ℕ} {s : List ℕ} {gs : List (List (List ℕ))} → Sets exchange least s gs → (0 < length s → Reading exchange s) →
    (k left : ℕ) → k < parts after_set left s → proposal_count (first_set (skip after_set k s)) ≤ 2
unfolding skip parts
sets-few sets_end reading k left h = absurd (omega (arith, parts_none after_set left))
sets-few (sets-on {s = s} some first rising same few sets) reading zero left h =
    let two = one_or_two (after_set s) rising same (rw (set-whole s first) at (reading some)) in
    rw first (omega (arith, proposals-count rising few))
sets-few (sets-on some first rising same few sets) reading (suc k) zero h = absurd (omega arith)
sets-few (sets-on {s = s} some first rising same few sets) reading (suc k) (suc left) h =
    sets-few sets (past (after_set s) rising (rw (set-whole s first) at (reading some))) k left (omega (arith, parts_more after_set left s some))
