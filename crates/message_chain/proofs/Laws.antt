-- What a message that reads consists of: its payloads one behind the other from byte 28 on, an SA payload among them with a body that reads.
-- That no refusal has the number 0. And when a message of one SA payload reads.
use Prim.Native.Nat.{ℕ, zero, suc, ◌+◌, ◌≤◌, ◌<◌}
use mathlib.Core.Path.{◌≡◌, refl, sym, ap}
use mathlib.Core.List.{List, [], ◌∷◌}
use mathlib.Core.Bool.{Bool, true, false, not, ◌||◌}
use native.Mathlib.Omega.{arith}
use native.Mathlib.Nat.{add-zero}
use lib.ListN.{length, get_or, drop, length-drop}
use lib.Seq.{get_or-drop, drop-drop, drop-length}
use lib.Dec.{eqb}
use borrow.Author.Tests.{eqb-true, eqb-false, not-true, not-false}
use Rattle.wire_read.specs.Wire.{number_at, next_field, length_field}
use Rattle.wire_read.specs.Tests.{if◌then◌otherwise◌}
use Rattle.wire_read.proofs.Tests.{never}
use Rattle.wire_read.proofs.Laws.{number-drop}
use Rattle.sa_proposals.specs.Proposals.{offer_code}
use Rattle.message_header.specs.Header.{exchange_of, flags_of, first_payload, header_code}
use Rattle.message_header.proofs.Laws.{header-long}
use Rattle.message_payload.proofs.Laws.{payload-within, payload-offer, sa_payload, body-whole}
use Rattle.message_payload.specs.Payloads.{body_of, payload_code, rest_code}
use Rattle.message_chain.specs.Message.{Reading, refused, payloads, in_front, chain, reading, nth, exchange_and_count, message, walk}
use Rattle.message_chain.specs.declared.Payload.{Payload}
use Rattle.message_chain.specs.Message.{Refused, Read}

-- ---- the walk

pub walk_start : (k type start : ℕ) (m : List ℕ) → (walk (suc k) type start m).start ≡ (walk k type start m).start + (walk k type start m).length
unfolding walk
walk_start zero type start m = refl
walk_start (suc k) type start m = walk_start k (get_or m start 0) (start + number_at 2 m (start + 2)) m

-- ---- the chain: of left payloads at most, the first of this type at start

pub record Found (exchange left : ℕ) (m : List ℕ) (type start : ℕ) (ps : List Payload) : Type 0 where
  pub walked : (j : ℕ) → j < length ps → walk j type start m ≡ nth ps j
  pub inside : (j : ℕ) → j < length ps → (nth ps j).start + (nth ps j).length ≤ length m
  pub measured : (j : ℕ) → j < length ps → (nth ps j).length ≡ number_at 2 (drop (nth ps j).start m) 2
  pub offers : (j : ℕ) → j < length ps → (nth ps j).payloadtype ≡ 1 → offer_code exchange (body_of (drop (nth ps j).start m)) ≡ 0
  pub few : length ps ≤ left

-- what follows the first payload was found too
first_found : (p : Payload) (r : Reading) (ps : List Payload) → in_front p r ≡ payloads ps → (qs : List Payload) × (r ≡ payloads qs) × (ps ≡ p ∷ qs)
unfolding in_front
first_found p (refused number) ps e = never (cc)
first_found p (payloads qs) ps e = (qs, refl, cc)

-- nothing was found beyond the last
none_found : (exchange left : ℕ) (m : List ℕ) (type start : ℕ) → Found exchange left m type start []
none_found exchange left m type start = record {
  walked = λ j l. absurd (omega arith);
  inside = λ j l. absurd (omega arith);
  measured = λ j l. absurd (omega arith);
  offers = λ j l. absurd (omega arith);
  few = omega arith;
}

-- one payload more, in front
module _ (exchange left : ℕ) (m : List ℕ) (type start : ℕ) (ps : List Payload) (h : start ≤ length m)
    (fits : number_at 2 (drop start m) 2 ≤ length (drop start m)) (offer : type ≡ 1 → offer_code exchange (body_of (drop start m)) ≡ 0) where
  abbrev all : List Payload
  all = record { payloadtype = type; start = start; length = number_at 2 (drop start m) 2 } ∷ ps

  more-found : Found exchange left m (get_or (drop start m) 0 0) (start + number_at 2 (drop start m) 2) ps → Found exchange (suc left) m type start all
  unfolding walk
  more-found f = record { walked = walked; inside = inside; measured = measured; offers = offers; few = omega (arith, f.few) }
    where
      walked : (j : ℕ) → j < suc (length ps) → walk j type start m ≡ nth all j
      walked zero l = rw (number-drop 2 start m 2)
      walked (suc j) l = rw (number-drop 2 start m 2, get_or-drop start m 0 0, add-zero start) at (f.walked j (omega arith))

      inside : (j : ℕ) → j < suc (length ps) → (nth all j).start + (nth all j).length ≤ length m
      inside zero l = omega (arith, length-drop start m)
      inside (suc j) l = f.inside j (omega arith)

      measured : (j : ℕ) → j < suc (length ps) → (nth all j).length ≡ number_at 2 (drop (nth all j).start m) 2
      measured zero l = refl
      measured (suc j) l = f.measured j (omega arith)

      offers : (j : ℕ) → j < suc (length ps) → (nth all j).payloadtype ≡ 1 → offer_code exchange (body_of (drop (nth all j).start m)) ≡ 0
      offers zero l = offer
      offers (suc j) l = f.offers j (omega arith)

-- a reading that is refused found nothing
nothing : {A : Type 0} (number : ℕ) (ps : List Payload) → refused number ≡ payloads ps → A
nothing number ps e = never (cc)

same : {ps qs : List Payload} → payloads ps ≡ payloads qs → ps ≡ qs
same e = cc

-- by which of two readings a test picked
by-pick : {A : Type 0} (t : Bool) (x y r : Reading) → (if t then x otherwise y) ≡ r → (t ≡ true → x ≡ r → A) → (t ≡ false → y ≡ r → A) → A
by-pick true x y r e f g = f refl e
by-pick false x y r e f g = g refl e

-- what may follow a payload: the next, a rest that is refused, or the end
by_end : {A : Type 0} (more wrong : Bool) (next : Reading) (number : ℕ) (qs : List Payload) →
    (if more then next otherwise if wrong then refused number otherwise payloads []) ≡ payloads qs → (next ≡ payloads qs → A) → (qs ≡ [] → A) → A
by_end true wrong next number qs e f g = f e
by_end false true next number qs e f g = nothing number qs e
by_end false false next number qs e f g = g (sym (same e))

module _ (left exchange flags : ℕ) (m : List ℕ)
    (again : (offered : Bool) (type start : ℕ) (qs : List Payload) → start ≤ length m →
    chain left exchange flags offered type start (drop start m) ≡ payloads qs → Found exchange left m type start qs)
    (offered : Bool) (type start : ℕ) (h : start ≤ length m) (fine : payload_code exchange offered type (drop start m) ≡ 0) where
  -- where the payload begins, and how long it says it is
  abbrev here : List ℕ
  here = drop start m

  abbrev size : ℕ
  size = number_at 2 here 2

  -- what follows it: its bytes, and the chain in them
  abbrev rest : List ℕ
  rest = drop size here

  abbrev following : Reading
  following = chain left exchange flags (offered || eqb type 1) (get_or here 0 0) (start + size) rest

  fits : size ≤ length here
  fits = payload-within exchange offered type here fine

  next-found : (qs : List Payload) →
      (if not (eqb (get_or here 0 0) 0) then following
      otherwise if not (eqb (rest_code flags rest) 0) then refused (rest_code flags rest)
      otherwise payloads []) ≡ payloads qs → Found exchange left m (get_or here 0 0) (start + size) qs
  next-found qs e =
      by_end (not (eqb (get_or here 0 0) 0)) (not (eqb (rest_code flags rest) 0)) following (rest_code flags rest) qs e
      (λ v. again (offered || eqb type 1) (get_or here 0 0) (start + size) qs (omega (arith, fits, length-drop start m)) (rw drop-drop at v))
      (λ none. rw none (none_found exchange left m (get_or here 0 0) (start + size)))

cons_some : (ps : List Payload) (p : Payload) (qs : List Payload) → ps ≡ p ∷ qs → 0 < length ps
cons_some ps p qs e = rw e (omega arith)

-- a chain that is not refused found its payloads, and one at least
found : (left exchange flags : ℕ) (offered : Bool) (type start : ℕ) (m : List ℕ) (ps : List Payload) → start ≤ length m →
    chain left exchange flags offered type start (drop start m) ≡ payloads ps → Found exchange left m type start ps × (0 < length ps)
unfolding chain
found zero exchange flags offered type start m ps h e = never (cc)
found (suc left) exchange flags offered type start m ps h e =
    by-pick _ _ _ _ e
    (λ w v. nothing _ ps v)
    (λ w v.
    let code = payload_code exchange offered type (drop start m) in
    let fine = eqb-true code 0 (not-false (eqb code 0) w) in
    let (qs, eq, ep) = first_found _ _ ps v in
    let after = next-found left exchange flags m (λ a t i rs g f. (found left exchange flags a t i m rs g f).0) offered type start h fine qs eq in
    let within = payload-within exchange offered type (drop start m) fine in
    let offer = payload-offer exchange offered type (drop start m) fine in
    (rw ep (more-found exchange left m type start qs h within offer after), cons_some ps _ qs ep))

pub reading-header : (m : List ℕ) (ps : List Payload) → reading m ≡ payloads ps → header_code m ≡ 0
unfolding reading
reading-header m ps e =
    by-pick (not (eqb (header_code m) 0)) (refused (header_code m)) _ _ e
    (λ w v. nothing _ ps v)
    (λ w v. eqb-true (header_code m) 0 (not-false (eqb (header_code m) 0) w))

pub reading-found : (m : List ℕ) (ps : List Payload) → reading m ≡ payloads ps → Found (exchange_of m) 32 m (first_payload m) 28 ps × (0 < length ps)
unfolding reading
reading-found m ps e =
    by-pick (not (eqb (header_code m) 0)) (refused (header_code m)) _ _ e
    (λ w v. nothing _ ps v)
    (λ w v. found 32 (exchange_of m) (flags_of m) false (first_payload m) 28 m ps (header-long m (reading-header m ps e)) v)

-- ---- the message

-- a payload counts one more
pub count-more : (exchange n : ℕ) (p : Payload) (r : Reading) → exchange_and_count exchange n (in_front p r) ≡ exchange_and_count exchange (n + 1) r
unfolding exchange_and_count in_front
count-more exchange n p (refused number) = refl
count-more exchange n p (payloads ps) = ap (Read exchange) (omega arith)

-- what a message that reads has been read as
pub record ReadAs (m : List ℕ) (exchange count : ℕ) : Type 0 where
  pub found : List Payload
  pub is : reading m ≡ payloads found
  pub same-exchange : exchange_of m ≡ exchange
  pub same_count : length found ≡ count

read_of : (m : List ℕ) (exchange count : ℕ) (r : Reading) → reading m ≡ r → exchange_and_count (exchange_of m) 0 r ≡ Read exchange count → ReadAs m exchange count
unfolding exchange_and_count
read_of m exchange count (refused number) e f = never (cc)
read_of m exchange count (payloads ps) e f =
    let same : 0 + length ps ≡ count = cc in
    record { found = ps; is = e; same-exchange = cc; same_count = omega arith }

pub read_as : (m : List ℕ) (exchange count : ℕ) → message m ≡ Read exchange count → ReadAs m exchange count
unfolding message
read_as m exchange count h = read_of m exchange count (reading m) refl h

-- ---- no refusal has the number 0

-- the number of a refusal; 1 for what is none
number_of : Reading → ℕ
number_of (refused number) = number
number_of (payloads ps) = 1

some : (code : ℕ) → not (eqb code 0) ≡ true → 0 < code
some code h = omega (arith, eqb-false code 0 (not-true (eqb code 0) h))

front_some : (p : Payload) (r : Reading) → 0 < number_of r → 0 < number_of (in_front p r)
unfolding in_front number_of
front_some p (refused number) h = h
front_some p (payloads ps) h = h

pick_some : (wrong : Bool) (number : ℕ) (r : Reading) → (wrong ≡ true → 0 < number) → 0 < number_of r → 0 < number_of (if wrong then refused number otherwise r)
unfolding number_of
pick_some true number r f h = f refl
pick_some false number r f h = h

end-some : (more wrong : Bool) (next : Reading) (number : ℕ) → 0 < number_of next → (wrong ≡ true → 0 < number) →
    0 < number_of (if more then next otherwise if wrong then refused number otherwise payloads [])
unfolding number_of
end-some true wrong next number h f = h
end-some false true next number h f = f refl
end-some false false next number h f = omega arith

chain-some : (left exchange flags : ℕ) (offered : Bool) (type start : ℕ) (s : List ℕ) → 0 < number_of (chain left exchange flags offered type start s)
unfolding chain
chain-some zero exchange flags offered type start s = unfold number_of in omega arith
chain-some (suc left) exchange flags offered type start s =
    let n : ℕ = length_field s in
    let code : ℕ = payload_code exchange offered type s in
    let rest : ℕ = rest_code flags (drop n s) in
    let next : Reading = chain left exchange flags (offered || eqb type 1) (next_field s) (start + n) (drop n s) in
    let next-some = chain-some left exchange flags (offered || eqb type 1) (next_field s) (start + n) (drop n s) in
    let behind = end-some (not (eqb (next_field s) 0)) (not (eqb rest 0)) next rest next-some (some rest) in
    pick_some (not (eqb code 0)) code _ (some code) (front_some (record { payloadtype = type; start = start; length = n }) _ behind)

reading-some : (m : List ℕ) → 0 < number_of (reading m)
unfolding reading
reading-some m = pick_some _ (header_code m) _ (some (header_code m)) (chain-some 32 (exchange_of m) (flags_of m) false (first_payload m) 28 (drop 28 m))

answer-some : (exchange : ℕ) (r : Reading) → 0 < number_of r → (number : ℕ) → exchange_and_count exchange 0 r ≡ Refused number → 0 < number
unfolding exchange_and_count number_of
answer-some exchange (refused n) h number e = let same : n ≡ number = cc in omega arith
answer-some exchange (payloads ps) h number e = never (cc)

pub refusal_some : (m : List ℕ) (number : ℕ) → message m ≡ Refused number → 0 < number
unfolding message
refusal_some m number e = answer-some (exchange_of m) (reading m) (reading-some m) number e

-- ---- a message of one SA payload

one-chain : (left exchange : ℕ) (s : List ℕ) → payload_code exchange false 1 s ≡ 0 → get_or s 0 0 ≡ 0 → number_at 2 s 2 ≡ length s → (start : ℕ) →
    exchange_and_count exchange 0 (chain (suc left) exchange 0 false 1 start s) ≡ Read exchange 1
unfolding chain in_front exchange_and_count rest_code
one-chain left exchange s fine last lies start = rw (fine, last, lies, drop-length s)

-- a header, and behind it one SA payload whose body reads
pub one_sa_reads : (m : List ℕ) → header_code m ≡ 0 → first_payload m ≡ 1 → flags_of m ≡ 0 → (exchange_of m ≡ 5 → ⊥) → 4 ≤ length (drop 28 m) →
    get_or (drop 28 m) 0 0 ≡ 0 → get_or (drop 28 m) 1 0 ≡ 0 → number_at 2 (drop 28 m) 2 ≡ length (drop 28 m) →
    offer_code (exchange_of m) (drop 4 (drop 28 m)) ≡ 0 → message m ≡ Read (exchange_of m) 1
unfolding message reading
one_sa_reads m header first flags other long last reserved lies reads =
    let s : List ℕ = drop 28 m in
    let body : offer_code (exchange_of m) (body_of s) ≡ 0 = rw (body-whole s lies) reads in
    let fine : payload_code (exchange_of m) false 1 s ≡ 0 = sa_payload (exchange_of m) s other reserved (omega arith) (omega arith) body in
    rw (header, first, flags) (one-chain 31 (exchange_of m) s fine last lies 28)
