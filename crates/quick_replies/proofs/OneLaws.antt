-- What a message 1 is that a responder may answer, whoever wrote it. It passed the checks of a delivery in a longer shape: so it reads, its SA
-- payload is its payload 1, and its identities are lawful, each payload of the chain having passed in its turn.
use Prim.Native.Nat.{ℕ, zero, suc, ◌+◌, ◌≤◌, ◌<◌}
use mathlib.Core.Path.{◌≡◌, refl, ◌∙◌}
use mathlib.Core.Logic.{◌⊎◌, inl, inr, ⊎_elim}
use mathlib.Core.List.{List}
use mathlib.Core.Bool.{Bool, true, false, not, ◌||◌, ◌&&◌}
use native.Mathlib.Omega.{arith}
use native.Mathlib.Nat.{add-zero}
use lib.ListN.{length, get_or, take, drop}
use lib.Seq.{get_or-drop, drop-drop}
use lib.Dec.{ltb, eqb}
use borrow.Author.Tests.{eqb-true, eqb-false, ltb-false, not-false}
use Rattle.wire_read.specs.Wire.{number_at}
use Rattle.wire_read.specs.Tests.{if◌then◌otherwise◌}
use Rattle.wire_read.proofs.Tests.{never, clash, both, neither, by_test, passed}
use Rattle.wire_read.proofs.Laws.{number-drop}
use Rattle.identity.specs.Identity.{identity_code}
use Rattle.sa_proposals.specs.Proposals.{offer_code}
use Rattle.message_header.specs.Header.{exchange_of, flags_of, first_payload, message_id_of, length_wrong, major_wrong, minor_wrong, exchange_refused, exchange_unknown, flags_wrong, cookie_zero, message_id_wrong, header_code}
use Rattle.message_payload.specs.Payloads.{type_wrong, length_out, body_code, body_of, payload_code, rest_code}
use Rattle.message_chain.specs.Message.{chain, reading, exchange_and_count, message, walk, payload_at}
use Rattle.message_chain.specs.declared.Payload.{Payload}
use Rattle.message_chain.specs.Message.{Message}
use Rattle.message_chain.specs.Message.{Refused, Read}
use Rattle.message_chain.proofs.Laws.{count-more, read_as, reading-header, refusal_some}
use Rattle.policy_choice.specs.Choice.{body_at, sa_from}
use Rattle.policy_choice.proofs.ChoiceLaws.{body_reads}
use Rattle.quick_shape.specs.Shapes.{type_is, shape, count_of, shape_of, is_longer}
use Rattle.quick_check.specs.Checks.{quick_code, read_code}
use Rattle.quick_check.proofs.Laws.{read_fits}
use Rattle.quick_deliver.specs.Deliver.{identity_at}
use Rattle.quick_end.specs.declared.State.{State}
use Rattle.quick_end.specs.declared.Own.{Own}
use Rattle.quick_exchange.proofs.MessageShapes.{Identities}
use Rattle.quick_replies.specs.Replies.{Octets}

-- ---- the body of an identity payload that is not refused

identity_body : (offered : Bool) (type : ℕ) (s : List ℕ) → payload_code 32 offered type s ≡ 0 → type ≡ 5 → identity_code 32 (body_of s) ≡ 0
unfolding payload_code body_code
identity_body offered type s h five =
    let allowed = passed (type_wrong 32 type) 1 _ (λ z. omega arith) h in
    let long = passed (ltb (length s) 4) 16 _ (λ z. omega arith) allowed.1 in
    let reserved = passed (not (eqb (get_or s 1 0) 0)) 16 _ (λ z. omega arith) long.1 in
    let bounds = passed (length_out s) 30 _ (λ z. omega arith) reserved.1 in
    (rw five at bounds).1

module _ (m : List ℕ) (flags count : ℕ) where
  abbrev body_in : Payload → List ℕ
  body_in p = drop 4 (take p.length (drop p.start m))

  -- the same of payload j of a chain, before which so many were found
  identity_in : (left before : ℕ) (offered : Bool) (type start : ℕ) →
      exchange_and_count 32 before (chain left 32 flags offered type start (drop start m)) ≡ Read 32 count → (j : ℕ) → before + j < count →
      (walk j type start m).payloadtype ≡ 5 → identity_code 32 (body_in (walk j type start m)) ≡ 0
  unfolding chain exchange_and_count walk body_of
  identity_in zero before offered type start e j l five = never (cc)
  identity_in (suc left) before offered type start e zero l five =
      by_test (not (eqb (payload_code 32 offered type (drop start m)) 0))
      (λ w. let bad : Refused (payload_code 32 offered type (drop start m)) ≡ Read 32 count = (rw w at e) in never (cc))
      (λ w. rw (number-drop 2 start m 2) at (identity_body offered type (drop start m) (eqb-true _ 0 (not-false _ w)) five))
  identity_in (suc left) before offered type start e (suc j) l five =
      let here : List ℕ = drop start m in
      let rest : List ℕ = drop (number_at 2 here 2) here in
      by_test (not (eqb (payload_code 32 offered type here) 0))
      (λ w. let bad : Refused (payload_code 32 offered type here) ≡ Read 32 count = (rw w at e) in never (cc))
      (λ w.
      let behind = (rw (w, count-more) at e) in
      by_test (not (eqb (get_or here 0 0) 0))
      (λ more.
      identity_in left (before + 1) (offered || eqb type 1) (get_or m start 0) (start + number_at 2 m (start + 2))
      (rw (more, drop-drop, number-drop 2 start m 2, get_or-drop start m 0 0, add-zero start) at behind) j (omega arith) five)
      (λ last.
      by_test (not (eqb (rest_code flags rest) 0))
      (λ z. let bad : Refused (rest_code flags rest) ≡ Read 32 count = (rw (last, z) at behind) in never (cc))
      (λ z.
      let all : Read 32 (before + 1 + 0) ≡ Read 32 count = (rw (last, z) at behind) in
      let same : before + 1 + 0 ≡ count = cc in
      absurd (omega arith))))

-- ---- a message that reads as exchange 32

-- the first payload is a hash and the next an SA payload
sa_second : (n : ℕ) (m : List ℕ) → (payload_at 0 m).payloadtype ≡ 8 → (payload_at 1 m).payloadtype ≡ 1 → sa_from (suc (suc n)) 0 m ≡ body_at 1 m
unfolding sa_from
sa_second n m hash sa = rw (hash, sa)

offer-long : (body : List ℕ) → offer_code 32 body ≡ 0 → 8 ≤ length body
unfolding offer_code
offer-long body h = ltb-false (length body) 8 (passed (ltb (length body) 8) 15 _ (λ z. omega arith) h).0

module _ (m : List ℕ) (count : ℕ) (reads : message m ≡ Read 32 count) where
  identity_reads : (j : ℕ) → j < count → (payload_at j m).payloadtype ≡ 5 → identity_code 32 (body_at j m) ≡ 0
  unfolding message reading payload_at body_at
  identity_reads j within five =
      let r = read_as m 32 count reads in
      identity_in m (flags_of m) count 32 0 false (first_payload m) 28 (rw (reading-header m r.found r.is, r.same-exchange) at reads) j (omega arith) five

  -- "Message ID .. zero with 32"
  id-some : 0 < message_id_of m
  unfolding header_code message_id_wrong
  id-some =
      let r = read_as m 32 count reads in
      let size = passed (length_wrong m) 30 _ (λ z. omega arith) (reading-header m r.found r.is) in
      let major = passed (major_wrong m) 5 _ (λ z. omega arith) size.1 in
      let minor = passed (minor_wrong m) 6 _ (λ z. omega arith) major.1 in
      let allowed = passed (exchange_refused m) 29 _ (λ z. omega arith) minor.1 in
      let known = passed (exchange_unknown m) 7 _ (λ z. omega arith) allowed.1 in
      let flags = passed (flags_wrong m) 8 _ (λ z. omega arith) known.1 in
      let cookies = passed (cookie_zero m) 4 _ (λ z. omega arith) flags.1 in
      let id = passed (message_id_wrong m) 9 _ (λ z. omega arith) cookies.1 in
      let some : eqb (message_id_of m) 0 ≡ false =
      (rw r.same-exchange at (neither (eqb (exchange_of m) 2 && not (eqb (message_id_of m) 0)) (eqb (exchange_of m) 32 && eqb (message_id_of m) 0) id.0).1) in
      omega (arith, eqb-false (message_id_of m) 0 some)

-- bytes spell a message ID of 32 bits
pub id-small : (m : List ℕ) → Octets m → message_id_of m < 4294967296
unfolding number_at
id-small m bytes = omega (arith, bytes 20, bytes 21, bytes 22, bytes 23)

-- ---- message 1

-- what is read of it
pub record Offering (m : List ℕ) : Type 0 where
  pub short : length m ≤ 2048
  pub count : ℕ
  pub reads : message m ≡ Read 32 count
  pub its_offer : sa_from count 0 m ≡ body_at 1 m
  pub some-offer : length (body_at 1 m) ≡ 0 → ⊥
  pub some_id : 0 < message_id_of m
  pub identities : Identities (identity_at 3 m) (identity_at 4 m)

-- a longer shape is the count of payloads
count-of : (t : Bool) (count : ℕ) → is_longer (if t then count otherwise 0) ≡ true → (t ≡ true) × ((if t then count otherwise 0) ≡ count) × ((count ≡ 3) ⊎ (count ≡ 5))
unfolding is_longer
count-of true count h = (refl, refl, by_test (eqb count 3) (λ e. inl (eqb-true count 3 e)) (λ e. inr (eqb-true count 5 (rw e at h))))
count-of false count h = clash h

module _ (m : List ℕ) (short : length m ≤ 2048) where
  -- "shape 8-1-10, 8-1-10-5-5 or 8 alone", as `shape` asks for it
  abbrev shaped : ℕ → Bool
  shaped count =
      type_is 0 m 8 && (eqb count 1 || type_is 1 m 1 && type_is 2 m 10 && (eqb count 3 || eqb count 5 && type_is 3 m 5 && type_is 4 m 5))

  types_of : (rest : Bool) → (type_is 0 m 8 && (type_is 1 m 1 && type_is 2 m 10 && rest)) ≡ true →
      ((payload_at 0 m).payloadtype ≡ 8) × ((payload_at 1 m).payloadtype ≡ 1) × (rest ≡ true)
  unfolding type_is
  types_of rest h =
      let first = both (type_is 0 m 8) _ h in
      let all = both (type_is 1 m 1 && type_is 2 m 10) rest first.1 in
      (eqb-true _ 8 first.0, eqb-true _ 1 (both (type_is 1 m 1) (type_is 2 m 10) all.0).0, all.1)

  one_of : (n : ℕ) → message m ≡ Read 32 (suc (suc n)) → (payload_at 0 m).payloadtype ≡ 8 → (payload_at 1 m).payloadtype ≡ 1 →
      Identities (identity_at 3 m) (identity_at 4 m) → Offering m
  one_of n reads hash sa identities = record {
    short = short;
    count = suc (suc n);
    reads = reads;
    its_offer = sa_second n m hash sa;
    some-offer = λ z. omega (arith, offer-long (body_at 1 m) (body_reads m 32 (suc (suc n)) reads 1 (omega arith) sa));
    some_id = id-some m (suc (suc n)) reads;
    identities = identities;
  }

  one-three : message m ≡ Read 32 3 → shaped 3 ≡ true → shape_of m ≡ 3 → Offering m
  unfolding identity_at
  one-three reads h is = let types = types_of true h in one_of 1 reads types.0 types.1 (rw is (inl (refl, refl)))

  one_five : message m ≡ Read 32 5 → shaped 5 ≡ true → shape_of m ≡ 5 → Offering m
  unfolding identity_at type_is
  one_five reads h is =
      let types = types_of (type_is 3 m 5 && type_is 4 m 5) h in
      let last = both (type_is 3 m 5) (type_is 4 m 5) types.2 in
      let one = identity_reads m 5 reads 3 (omega arith) (eqb-true (payload_at 3 m).payloadtype 5 last.0) in
      let two = identity_reads m 5 reads 4 (omega arith) (eqb-true (payload_at 4 m).payloadtype 5 last.1) in
      one_of 3 reads types.0 types.1 (rw is (inr (one, two)))

  pub by_shape : (count : ℕ) → message m ≡ Read 32 count → is_longer (shape count m) ≡ true → Offering m
  unfolding shape shape_of count_of
  by_shape count reads h =
      let longer = count-of (shaped count) count h in
      let is : shape_of m ≡ count = rw reads longer.1 in
      ⊎_elim (λ e. one-three (rw e at reads) (rw e at longer).0 (is ∙ e)) (λ e. one_five (rw e at reads) (rw e at longer).0 (is ∙ e)) longer.2

-- the checks of a delivery let it pass
module _ (own : Own) (state : State) (id : ℕ) (m : List ℕ) where
  by-reading : (read : Message) → message m ≡ read → read_code own state id m read ≡ 0 → length m ≤ 2048 → is_longer (shape (count_of read) m) ≡ true → Offering m
  unfolding read_code quick_code count_of
  by-reading (Refused number) e h short longer = absurd (omega (arith, refusal_some m number e))
  by-reading (Read exchange count) e h short longer =
      let quick = eqb-true exchange 32 (not-false _ (passed (not (eqb exchange 32)) 7 _ (λ z. omega arith) h).0) in
      by_shape m short count (rw quick at e) longer

  pub one_passed : read_code own state id m (message m) ≡ 0 → is_longer (shape_of m) ≡ true → Offering m
  unfolding shape_of
  one_passed h longer = by-reading (message m) refl h (read_fits m (message m) refl own state id _ refl h) longer
