-- What the ends write is read back, whatever the 32 hash bytes are: each message that is equal to a written one has the written header, and
-- its payloads stand in it one behind the other, padded with zero bytes.
use Prim.Native.Nat.{ℕ, zero, suc, ◌+◌, ◌%◌, ◌^◌, ◌≤◌, ◌<◌}
use mathlib.Core.Path.{◌≡◌, refl, sym, ap, ◌∙◌}
use mathlib.Core.Logic.{◌⊎◌, inl, inr}
use mathlib.Core.List.{List, [], ◌++◌, append_assoc, append-nil}
use mathlib.Core.Bool.{Bool, true, false, not, ◌||◌, ◌&&◌}
use native.Mathlib.Omega.{arith}
use native.Mathlib.Nat.{add-zero, zero-add}
use lib.ListN.{length, get_or, take, drop, replicate, length-append, length-drop, length-replicate, take-append-drop}
use lib.Seq.{length-take-le, take_at, drop_at, get_or-drop, drop-drop}
use lib.Dec.{leb, eqb}
use borrow.Author.Tests.{eqb-true, leb-true, eq-eqb, ne_eqb, le-ltb, le-leb}
use Rattle.wire_read.specs.Wire.{number_at, all_zero}
use Rattle.wire_write.specs.Put.{bytes_of, head, headed}
use Rattle.wire_read.specs.Tests.{if◌then◌otherwise◌}
use Rattle.wire_read.proofs.Tests.{clash, both, by_test}
use Rattle.wire_read.proofs.Laws.{number_agree, number_past, number-drop, number-take, number_append, all_zero-true}
use Rattle.wire_write.proofs.Laws.{number-bytes_of, length_bytes_of, length_head, length_headed, headed-lies}
use Rattle.identity.specs.Identity.{quick_data, lawful, identity_code}
use Rattle.sa_proposals.specs.Proposals.{proposals_code}
use Rattle.sa_proposals.specs.Proposals as proposals
use Rattle.sa_proposals.proofs.Written.{offer-right}
use Rattle.message_header.specs.Header.{exchange_of, flags_of, first_payload, length_wrong, major_wrong, minor_wrong, exchange_refused, exchange_unknown, flags_wrong, cookie_zero, message_id_wrong, flagged_length_wrong, no_payload, header_code}
use Rattle.message_payload.specs.Payloads.{type_wrong, length_out, hash_code, nonce_code, body_code, body_of, payload_code, rest_code}
use Rattle.message_chain.proofs.Laws.{count-more}
use Rattle.message_chain.specs.Message.{in_front, chain, reading, exchange_and_count, message, walk, payload_at}
use Rattle.message_chain.specs.declared.Payload.{Payload}
use Rattle.message_chain.specs.Message.{Read}
use Rattle.policy_choice.specs.Choice.{body_at}
use Rattle.policy_reply.specs.Reply.{sa_of}
use Rattle.quick_write.specs.Messages.{nonce_of, hash, padding, padded, header, message_of, nonce_and_identities, longer, message_three}
use Rattle.quick_end.specs.Fresh.{is_idle, is_initiator}
use Rattle.quick_shape.specs.Shapes.{alike, type_is, shape, count_of, shape_of, is_longer, nonce_read, nonce_in}
use Rattle.quick_check.specs.Checks.{cookies_not_own, quick_code, read_code}
use Rattle.quick_deliver.specs.Deliver.{identity_at}
use Rattle.quick_end.specs.declared.Own.{Own}
use Rattle.quick_end.specs.declared.State.{State}
use Rattle.quick_shape.proofs.Laws.{Alike, alike-says}
use Rattle.quick_exchange.specs.Readable.{Padded}
use Rattle.quick_exchange.proofs.MessageShapes.{Fit, payloads_with, sa_body, Framed, Longer, Identities, Third}

-- ---- one payload

-- s begins with a payload that has this next field and this body, and the rest follows it
record Front (s : List ℕ) (next : ℕ) (body rest : List ℕ) : Type 0 where
  next_field_lem : get_or s 0 0 ≡ next
  reserved : get_or s 1 0 ≡ 0
  lies : number_at 2 s 2 ≡ 4 + length body
  within : 4 + length body ≤ length s
  its_body : drop 4 (take (4 + length body) s) ≡ body
  behind : drop (4 + length body) s ≡ rest

drop-headed : (next : ℕ) (body : List ℕ) → drop 4 (headed next body) ≡ body
unfolding headed
drop-headed next body = drop_at (head next (4 + length body)) body 4 (length_head next (4 + length body))

-- what is written so begins so
front_of : (next : ℕ) (body rest : List ℕ) → 4 + length body < 65536 → Front (headed next body ++ rest) next body rest
unfolding headed head
front_of next body rest short = record {
  next_field_lem = refl;
  reserved = refl;
  lies = number_append 2 (headed next body) rest 2 (omega (arith, length_headed next body)) ∙ headed-lies next body short;
  within = omega (arith, length-append (headed next body) rest, length_headed next body);
  its_body = ap (drop 4) (take_at (headed next body) rest (4 + length body) (length_headed next body)) ∙ drop-headed next body;
  behind = drop_at (headed next body) rest (4 + length body) (length_headed next body);
}

front_is : (s : List ℕ) (next : ℕ) (body rest : List ℕ) → s ≡ headed next body ++ rest → 4 + length body < 65536 → Front s next body rest
front_is s next body rest e short = rw e (front_of next body rest short)

-- a payload of this type may come, and its body is not refused
record Right (exchange : ℕ) (offered : Bool) (type : ℕ) (body : List ℕ) : Type 0 where
  known : type_wrong exchange type ≡ false
  passes : body_code exchange offered type body ≡ 0

module _ {exchange : ℕ} {offered : Bool} {type : ℕ} {s : List ℕ} {next : ℕ} {body rest : List ℕ} (f : Front s next body rest)
    (r : Right exchange offered type body) where
  -- such a payload at the front passes, and the chain goes on behind it
  payload-passes : payload_code exchange offered type s ≡ 0
  unfolding payload_code length_out body_of
  payload-passes =
      let w : 4 + length body ≤ length s = f.within in
      rw (
        r.known,
        le-ltb (length s) 4 (omega (arith, w)),
        f.reserved,
        f.lies,
        le-ltb (4 + length body) 4 (omega arith),
        le-ltb (length s) (4 + length body) w,
        f.its_body,
      ) r.passes

  chain-on : (left start count : ℕ) → (next ≡ 0 → ⊥) →
      exchange_and_count exchange count (chain (suc left) exchange 1 offered type start s)
      ≡ exchange_and_count exchange (count + 1) (chain left exchange 1 (offered || eqb type 1) next (start + (4 + length body)) rest)
  unfolding chain
  chain-on left start count some =
      rw (payload-passes, f.next_field_lem, ne_eqb next 0 some, f.lies, f.behind)
      (count-more exchange count _ (chain left exchange 1 (offered || eqb type 1) next (start + (4 + length body)) rest))

  -- "After the last: .. with flag 1 a rest over 15 bytes is 30, a nonzero byte in it 16"
  chain-last : (left start count : ℕ) → next ≡ 0 → rest_code 1 rest ≡ 0 →
      exchange_and_count exchange count (chain (suc left) exchange 1 offered type start s) ≡ Read exchange (count + 1)
  unfolding chain in_front exchange_and_count
  chain-last left start count e passes = rw (payload-passes, f.next_field_lem, e, f.lies, f.behind, passes)

abbrev pub zeros : ℕ → List ℕ
zeros n = replicate n 0

zero-byte : (n i : ℕ) → get_or (zeros n) i 0 ≡ 0
zero-byte zero i = refl
zero-byte (suc n) zero = refl
zero-byte (suc n) (suc i) = zero-byte n i

zeros_all : (n : ℕ) → all_zero (zeros n) ≡ true
unfolding all_zero
zeros_all zero = refl
zeros_all (suc n) = zeros_all n

length_zeros : (n : ℕ) → length (zeros n) ≡ n
length_zeros n = length-replicate n 0

rest-passes : (n : ℕ) → n < 16 → rest_code 1 (zeros n) ≡ 0
unfolding rest_code
rest-passes n h =
    by_test (eqb (length (zeros n)) 0) (λ e. rw e)
    (λ e. rw (e, le-ltb 15 (length (zeros n)) (omega (arith, length_zeros n)), zeros_all n))

-- ---- where the payloads of a message stand

-- payload k is of this type and stands at start, where the message goes on with s
record Lies (m : List ℕ) (k type start : ℕ) (s : List ℕ) : Type 0 where
  walked : (j : ℕ) → payload_at (k + j) m ≡ walk j type start m
  there : drop start m ≡ s

module _ {m : List ℕ} {k type start : ℕ} {s : List ℕ} (l : Lies m k type start s) where
  lies_at : payload_at k m ≡ record { payloadtype = type; start = start; length = number_at 2 s 2 }
  unfolding walk
  lies_at =
      ap (λ (j : ℕ). payload_at j m) (sym (add-zero k)) ∙ l.walked 0
      ∙ ap (λ (n : ℕ). record { payloadtype = type; start = start; length = n })
      (sym (number-drop 2 start m 2) ∙ ap (λ (t : List ℕ). number_at 2 t 2) l.there)

  lies_type : (payload_at k m).payloadtype ≡ type
  lies_type = ap (λ (p : Payload). p.payloadtype) lies_at

  module _ {next : ℕ} {body rest : List ℕ} (f : Front s next body rest) where
    lies-body : body_at k m ≡ body
    unfolding body_at
    lies-body = rw (lies_at, l.there, f.lies, f.its_body)

    lies-on : Lies m (k + 1) next (start + (4 + length body)) rest
    unfolding walk
    lies-on = record {
      walked = λ j. ap (λ (i : ℕ). payload_at i m) (omega arith) ∙ l.walked (suc j) ∙ ap (λ (n : ℕ). walk j n (start + number_at 2 m (start + 2)) m) type_on
          ∙ ap (λ (n : ℕ). walk j next (start + n) m) size-on;
      there = sym (drop-drop (4 + length body) start m) ∙ ap (drop (4 + length body)) l.there ∙ f.behind;
    }
      where
        type_on : get_or m start 0 ≡ next
        type_on = ap (λ (i : ℕ). get_or m i 0) (sym (add-zero start)) ∙ sym (get_or-drop start m 0 0) ∙ ap (λ (t : List ℕ). get_or t 0 0) l.there ∙ f.next_field_lem

        size-on : number_at 2 m (start + 2) ≡ 4 + length body
        size-on = sym (number-drop 2 start m 2) ∙ ap (λ (t : List ℕ). number_at 2 t 2) l.there ∙ f.lies

-- ---- the header

-- bytes that are all zero spell 0, so those of a cookie are not
zeros_spell : (n : ℕ) (s : List ℕ) → all_zero s ≡ true → number_at n s 0 ≡ 0
zeros_spell n s h =
    let all : s ≡ zeros (length s) = all_zero-true s h in
    number_agree n s [] 0 0 (λ k l. ap (λ (t : List ℕ). get_or t (0 + k) 0) all ∙ zero-byte (length s) (0 + k)) ∙ number_past n [] 0 (omega arith)

cookie_some : (n c : ℕ) → (c ≡ 0 → ⊥) → c < 256 ^ n → all_zero (bytes_of n c) ≡ false
cookie_some n c some small =
    by_test (all_zero (bytes_of n c)) (λ h. absurd (some (sym (number-bytes_of n c small) ∙ zeros_spell n (bytes_of n c) h))) (λ h. h)

-- what stands in a message with the header that an end writes
record Head (own : Own) (id size : ℕ) (m s : List ℕ) : Type 0 where
  one : take 8 m ≡ bytes_of 8 own.icookie
  two : take 8 (drop 8 m) ≡ bytes_of 8 own.rcookie
  payloadtype : first_payload m ≡ 8
  version : get_or m 17 0 ≡ 0x11
  exchange : exchange_of m ≡ 32
  flag : flags_of m ≡ 1
  its_id : take 4 (drop 20 m) ≡ bytes_of 4 id
  its_size : take 4 (drop 24 m) ≡ bytes_of 4 size
  behind : drop 28 m ≡ s
  long : length m ≡ 28 + length s

head_of : (own : Own) (id size : ℕ) (s : List ℕ) → Head own id size (header own id size ++ s) s
unfolding header bytes_of
head_of own id size s = record {
  one = refl;
  two = refl;
  payloadtype = refl;
  version = refl;
  exchange = refl;
  flag = refl;
  its_id = refl;
  its_size = refl;
  behind = refl;
  long = omega arith;
}

head-is : (own : Own) (id size : ℕ) (m s : List ℕ) → m ≡ header own id (28 + size) ++ s → size ≡ length s → Head own id (28 + length s) m s
head-is own id size m s e el = rw (e, el) (head_of own id (28 + length s) s)

number_of : (n i x : ℕ) (m : List ℕ) → take n (drop i m) ≡ bytes_of n x → x < 256 ^ n → number_at n m i ≡ x
number_of n i x m e small =
    ap (number_at n m) (sym (add-zero i)) ∙ sym (number-drop n i m 0) ∙ sym (number-take n n (drop i m) 0 (omega arith)) ∙ ap (λ (t : List ℕ). number_at n t 0) e
    ∙ number-bytes_of n x small

-- m is such a message of an exchange, and what stands behind its header fits
record Frame (own : Own) (id : ℕ) (m s : List ℕ) : Type 0 where
  fit : Fit own
  some_id : 0 < id
  small-id : id < 4294967296
  its_head : Head own id (28 + length s) m s
  short : length s ≤ 2020
  even : length s % 16 ≡ 0

module _ {own : Own} {id : ℕ} {m s : List ℕ} (f : Frame own id m s) where
  abbrev the_head : Head own id (28 + length s) m s
  the_head = f.its_head

  head-icookie : number_at 8 m 0 ≡ own.icookie
  head-icookie = number_of 8 0 own.icookie m the_head.one (omega (arith, f.fit.icookie.1))

  head-rcookie : number_at 8 m 8 ≡ own.rcookie
  head-rcookie = number_of 8 8 own.rcookie m the_head.two (omega (arith, f.fit.rcookie.1))

  head-id : number_at 4 m 20 ≡ id
  head-id = number_of 4 20 id m the_head.its_id (omega (arith, f.small-id))

  head-size : number_at 4 m 24 ≡ 28 + length s
  head-size = number_of 4 24 (28 + length s) m the_head.its_size (omega (arith, f.short))

  header-passes : header_code m ≡ 0
  unfolding header_code length_wrong major_wrong minor_wrong exchange_refused exchange_unknown flags_wrong cookie_zero message_id_wrong flagged_length_wrong no_payload
  header-passes =
      let first-cookie : all_zero (bytes_of 8 own.icookie) ≡ false = cookie_some 8 own.icookie f.fit.icookie.0 (omega (arith, f.fit.icookie.1)) in
      let second-cookie : all_zero (bytes_of 8 own.rcookie) ≡ false = cookie_some 8 own.rcookie f.fit.rcookie.0 (omega (arith, f.fit.rcookie.1)) in
      rw (
        the_head.exchange,
        the_head.flag,
        the_head.payloadtype,
        the_head.version,
        head-id,
        head-size,
        the_head.behind,
        f.even,
        the_head.long,
        the_head.one,
        the_head.two,
        first-cookie,
        second-cookie,
        le-ltb (28 + length s) 28 (omega arith),
        le-ltb 8192 (28 + length s) (omega (arith, f.short)),
        eq-eqb (28 + length s) (28 + length s) refl,
        ne_eqb id 0 (λ e. omega (arith, f.some_id)),
      )

  head_framed : Framed own id m
  head_framed = record {
    short = omega (arith, the_head.long, f.short);
    flag = the_head.flag;
    icookie = head-icookie;
    rcookie = head-rcookie;
    its_id = head-id;
  }

  head-reads : message m ≡ exchange_and_count 32 0 (chain 32 32 1 false 8 28 s)
  unfolding message reading
  head-reads = rw (header-passes, the_head.exchange, the_head.flag, the_head.payloadtype, the_head.behind)

  head-lies : Lies m 0 8 28 s
  unfolding payload_at
  head-lies = record {
    walked = λ j. ap (λ (k : ℕ). payload_at k m) (zero-add j) ∙ ap (λ (type : ℕ). walk j type 28 m) the_head.payloadtype;
    there = the_head.behind;
  }

-- ---- the hash bytes

-- a message equal to this one has 32 bytes in place of the zeros, and else the same
record Hashed (front rest m : List ℕ) : Type 0 where
  bytes : List ℕ
  thirty_two : length bytes ≡ 32
  is : m ≡ front ++ (bytes ++ rest)

hashed : (front mid rest m : List ℕ) → length front ≡ 32 → length mid ≡ 32 → Alike m (front ++ (mid ++ rest)) → Hashed front rest m
hashed front mid rest m lf lm a =
    let size : length m ≡ 32 + (32 + length rest) = a.as_long ∙ length-append front (mid ++ rest) ∙ omega (arith, lf, lm, length-append mid rest) in
    let before : take 32 m ≡ front = a.before ∙ take_at front (mid ++ rest) 32 lf in
    let behind : drop 64 m ≡ rest =
    a.behind ∙ sym (drop-drop 32 32 (front ++ (mid ++ rest))) ∙ ap (drop 32) (drop_at front (mid ++ rest) 32 lf) ∙ drop_at mid rest 32 lm in
    record {
      bytes = take 32 (drop 32 m);
      thirty_two = length-take-le 32 (drop 32 m) (omega (arith, length-drop 32 m));
      is = sym (take-append-drop 32 m) ∙ ap (λ (t : List ℕ). t ++ drop 32 m) before
          ∙ ap (λ (t : List ℕ). front ++ t)
          (sym (take-append-drop 32 (drop 32 m)) ∙ ap (λ (t : List ℕ). take 32 (drop 32 m) ++ t) (drop-drop 32 32 m ∙ behind));
    }

-- ---- the padding: "Endpoints pad with the fewest zero bytes to 16"

padding-few : (n : ℕ) → padding n < 16
unfolding padding
padding-few n = omega arith

padding-even : (n : ℕ) → (n + padding n) % 16 ≡ 0
unfolding padding
padding-even n = omega arith

length_padded : (ps : List ℕ) → length (padded ps) ≡ length ps + padding (length ps)
unfolding padded
length_padded ps = length-append ps (zeros (padding (length ps))) ∙ ap (λ (n : ℕ). length ps + n) (length_zeros (padding (length ps)))

message-padded : (own : Own) (id : ℕ) (ps : List ℕ) → Padded ps (message_of own id ps)
unfolding message_of padded
message-padded own id ps =
    let h = head_of own id (28 + length (padded ps)) (padded ps) in
    record {
      few = padding-few (length ps);
      ends = h.behind;
      long = h.long ∙ omega (arith, length_padded ps);
      even = padding-even (length ps);
    }

pub third_padded : (own : Own) (id : ℕ) → Padded (hash 0) (message_three own id)
unfolding message_three
third_padded own id = message-padded own id (hash 0)

pub longer-padded : (own : Own) (id : ℕ) (ps first second : List ℕ) →
    Padded (hash 1 ++ (sa_of 10 ps ++ nonce_and_identities (nonce_of own) first second)) (longer own id ps first second)
unfolding longer
longer-padded own id ps first second = message-padded own id (hash 1 ++ (sa_of 10 ps ++ nonce_and_identities (nonce_of own) first second))

-- ---- a message that is equal to a written one

-- its header is the written one, and behind it stand a hash payload with some 32 bytes, the same payloads, and the padding
record Written (own : Own) (id next : ℕ) (behind m : List ℕ) : Type 0 where
  bytes : List ℕ
  thirty_two : length bytes ≡ 32
  pad : ℕ
  few : pad < 16
  all : List ℕ
  is : all ≡ headed next bytes ++ (behind ++ zeros pad)
  long : length all ≡ 36 + (length behind + pad)
  even : length all % 16 ≡ 0
  its_head : Head own id (28 + length all) m all

moved : (a b c d e : List ℕ) → a ++ (((b ++ c) ++ d) ++ e) ≡ (a ++ b) ++ (c ++ (d ++ e))
moved a b c d e =
    ap (λ (t : List ℕ). a ++ t) (append_assoc (b ++ c) d e ∙ append_assoc b c (d ++ e)) ∙ sym (append_assoc a b (c ++ (d ++ e)))

joined : (a b c d : List ℕ) → (a ++ b) ++ (c ++ d) ≡ a ++ ((b ++ c) ++ d)
joined a b c d = append_assoc a b (c ++ d) ∙ ap (λ (t : List ℕ). a ++ t) (sym (append_assoc b c d))

module _ (own : Own) (id next : ℕ) (behind m : List ℕ) where
  abbrev sent : List ℕ
  sent = hash next ++ behind

  abbrev size_sent : ℕ
  size_sent = length sent + padding (length sent)

  length_sent : length sent ≡ 36 + length behind
  unfolding hash
  length_sent = length-append (hash next) behind ∙ ap (λ (n : ℕ). n + length behind) (length_headed next (zeros 32))

  sent-parts : message_of own id sent ≡ (header own id (28 + size_sent) ++ head next 36) ++ (zeros 32 ++ (behind ++ zeros (padding (length sent))))
  unfolding message_of padded hash headed
  sent-parts =
      ap (λ (n : ℕ). header own id (28 + n) ++ (sent ++ zeros (padding (length sent)))) (length_padded sent)
      ∙ moved (header own id (28 + size_sent)) (head next 36) (zeros 32) behind (zeros (padding (length sent)))

  length_front : length (header own id (28 + size_sent) ++ head next 36) ≡ 32
  length_front =
      length-append (header own id (28 + size_sent)) (head next 36)
      ∙ omega (arith, length_head next 36, (head_of own id (28 + size_sent) []).long, length-append (header own id (28 + size_sent)) [])

  written : alike m (message_of own id sent) ≡ true → Written own id next behind m
  unfolding headed
  written a =
      let h : Hashed (header own id (28 + size_sent) ++ head next 36) (behind ++ zeros (padding (length sent))) m =
      hashed (header own id (28 + size_sent) ++ head next 36) (zeros 32) (behind ++ zeros (padding (length sent))) m length_front refl
      (alike-says m _ (rw sent-parts at a)) in
      let as-headed : headed next h.bytes ≡ head next 36 ++ h.bytes = ap (λ (n : ℕ). head next (4 + n) ++ h.bytes) h.thirty_two in
      let whole : m ≡ header own id (28 + size_sent) ++ (headed next h.bytes ++ (behind ++ zeros (padding (length sent)))) =
      h.is ∙ joined (header own id (28 + size_sent)) (head next 36) h.bytes _
      ∙ ap (λ (t : List ℕ). header own id (28 + size_sent) ++ (t ++ (behind ++ zeros (padding (length sent))))) (sym as-headed) in
      let long : length (headed next h.bytes ++ (behind ++ zeros (padding (length sent)))) ≡ size_sent =
      length-append (headed next h.bytes) _
      ∙ omega (
        arith,
        length_headed next h.bytes,
        h.thirty_two,
        length-append behind (zeros (padding (length sent))),
        length_zeros (padding (length sent)),
        length_sent,
      ) in
      record {
        bytes = h.bytes;
        thirty_two = h.thirty_two;
        pad = padding (length sent);
        few = padding-few (length sent);
        all = headed next h.bytes ++ (behind ++ zeros (padding (length sent)));
        is = refl;
        long = omega (arith, length_sent, long);
        even = rw long (padding-even (length sent));
        its_head = head-is own id size_sent m _ whole (sym long);
      }

-- ---- the shapes, by the kinds of the payloads

module _ (m : List ℕ) where
  shape_one : (payload_at 0 m).payloadtype ≡ 8 → shape 1 m ≡ 1
  unfolding shape type_is
  shape_one k0 = rw k0

  shape-three : (payload_at 0 m).payloadtype ≡ 8 → (payload_at 1 m).payloadtype ≡ 1 → (payload_at 2 m).payloadtype ≡ 10 → shape 3 m ≡ 3
  unfolding shape type_is
  shape-three k0 k1 k2 = rw (k0, k1, k2)

  shape_five : (payload_at 0 m).payloadtype ≡ 8 → (payload_at 1 m).payloadtype ≡ 1 → (payload_at 2 m).payloadtype ≡ 10 → (payload_at 3 m).payloadtype ≡ 5 →
      (payload_at 4 m).payloadtype ≡ 5 → shape 5 m ≡ 5
  unfolding shape type_is
  shape_five k0 k1 k2 k3 k4 = rw (k0, k1, k2, k3, k4)

  shape-read : (count : ℕ) → message m ≡ Read 32 count → shape count m ≡ count → shape_of m ≡ count
  unfolding shape_of count_of
  shape-read count e h = rw e h

-- ---- message 3

-- "hash 32 bytes"
hash-right : (bytes : List ℕ) → length bytes ≡ 32 → Right 32 false 8 bytes
unfolding type_wrong body_code hash_code
hash-right bytes h = record { known = refl; passes = rw h }

pub third_reads : (own : Own) (id : ℕ) → Fit own → 0 < id → id < 4294967296 → (m : List ℕ) → alike m (message_three own id) ≡ true → Third own id m
unfolding message_three
third_reads own id fit some small m a =
    let w : Written own id 0 [] m = written own id 0 [] m (ap (λ (t : List ℕ). alike m (message_of own id t)) (append-nil (hash 0)) ∙ a) in
    let few : w.pad < 16 = w.few in
    let long : length w.all ≡ 36 + (0 + w.pad) = w.long in
    let even : length w.all % 16 ≡ 0 = w.even in
    let frame : Frame own id m w.all = record { fit = fit; some_id = some; small-id = small; its_head = w.its_head; short = omega arith; even = even } in
    let front : Front w.all 0 w.bytes (zeros w.pad) = front_is w.all 0 w.bytes (zeros w.pad) w.is (omega (arith, w.thirty_two)) in
    let reads : message m ≡ Read 32 1 = head-reads frame ∙ chain-last front (hash-right w.bytes w.thirty_two) 31 28 0 refl (rest-passes w.pad few) in
    record {
      framed = head_framed frame;
      reads = reads;
      shape = shape-read m 1 reads (shape_one m (lies_type (head-lies frame)));
      long = omega (arith, w.its_head.long);
    }

-- ---- the bodies of the longer shapes

length_sa : (ps : List ℕ) → length (sa_body ps) ≡ 8 + length ps
length_sa ps = length-append (bytes_of 4 1) (bytes_of 4 1 ++ ps) ∙ omega (arith, length-append (bytes_of 4 1) ps, length_bytes_of 4 1)

-- DOI 1, situation 1, and proposals that read
sa_right : (ps : List ℕ) → proposals_code 16 32 0 proposals.none ps ≡ 0 → Right 32 false 1 (sa_body ps)
unfolding type_wrong body_code
sa_right ps reads =
    let four : length (bytes_of 4 1) ≡ 4 = length_bytes_of 4 1 in
    let doi : number_at 4 (sa_body ps) 0 ≡ 1 = number_append 4 (bytes_of 4 1) _ 0 (omega (arith, four)) ∙ number-bytes_of 4 1 (omega arith) in
    let situation : number_at 4 (sa_body ps) 4 ≡ 1 =
    sym (number-drop 4 4 (sa_body ps) 0) ∙ ap (λ (t : List ℕ). number_at 4 t 0) (drop_at (bytes_of 4 1) (bytes_of 4 1 ++ ps) 4 four)
    ∙ number_append 4 (bytes_of 4 1) ps 0 (omega (arith, four)) ∙ number-bytes_of 4 1 (omega arith) in
    let behind : drop 8 (sa_body ps) ≡ ps =
    sym (drop-drop 4 4 (sa_body ps)) ∙ ap (drop 4) (drop_at (bytes_of 4 1) (bytes_of 4 1 ++ ps) 4 four) ∙ drop_at (bytes_of 4 1) ps 4 four in
    record { known = refl; passes = offer-right 32 (sa_body ps) (omega (arith, length_sa ps)) doi situation (rw behind reads) }

-- "nonce 8 to 256"
nonce-right : (nonce : List ℕ) → 8 ≤ length nonce → length nonce ≤ 256 → Right 32 true 10 nonce
unfolding type_wrong body_code nonce_code
nonce-right nonce low high = record { known = refl; passes = rw (le-leb 8 (length nonce) low, le-leb (length nonce) 256 high) }

identity_right : (body : List ℕ) → identity_code 32 body ≡ 0 → Right 32 true 5 body
unfolding type_wrong body_code
identity_right body h = record { known = refl; passes = h }

-- "Exchange 32: types 1, 4, 5, 6, 7, 8 with 4, 8, 16, 32, 8, 32"
data_few : (test : Bool) (size n : ℕ) (others : Bool) → n ≤ 32 → (others ≡ true → size ≤ 32) → (if test then eqb size n otherwise others) ≡ true → size ≤ 32
data_few true size n others few rest h = omega (arith, eqb-true size n h)
data_few false size n others few rest h = rest h

quick-few : (type : ℕ) (s : List ℕ) → quick_data type s ≡ true → length s ≤ 32
unfolding quick_data
quick-few type s =
    data_few (eqb type 1) (length s) 4 _ (omega arith)
    (data_few (eqb type 4) (length s) 8 _ (omega arith)
    (data_few (eqb type 5) (length s) 16 _ (omega arith)
    (data_few (eqb type 6) (length s) 32 _ (omega arith)
    (data_few (eqb type 7) (length s) 8 _ (omega arith)
    (data_few (eqb type 8) (length s) 32 false (omega arith) (λ h. clash h))))))

lawful-held : (test : Bool) (number : ℕ) → 0 < number → (if test then 0 otherwise number) ≡ 0 → test ≡ true
lawful-held true number some h = refl
lawful-held false number some h = absurd (omega arith)

identity_size : (body : List ℕ) → identity_code 32 body ≡ 0 → (4 ≤ length body) × (length body ≤ 36)
unfolding identity_code lawful
identity_size body h =
    let b = both (leb 4 (length body)) _ (lawful-held _ 18 (omega arith) h) in
    (leb-true 4 (length body) b.0, omega (arith, quick-few (get_or body 0 0) (drop 4 body) b.1, length-drop 4 body))

-- ---- messages 1 and 2: hash, SA and nonce, and then what follows the nonce

regrouped : (a b c d : List ℕ) → (a ++ (b ++ c)) ++ d ≡ a ++ (b ++ (c ++ d))
regrouped a b c d = append_assoc a (b ++ c) d ∙ ap (λ (t : List ℕ). a ++ t) (append_assoc b c d)

-- m is equal to a written message whose nonce payload has this next field and is followed by tail
record Parts (own : Own) (id : ℕ) (ps : List ℕ) (next : ℕ) (tail m : List ℕ) : Type 0 where
  fit : Fit own
  some_id : 0 < id
  small-id : id < 4294967296
  ps_read : proposals_code 16 32 0 proposals.none ps ≡ 0
  ps_few : length ps ≤ 576
  tail_few : length tail ≤ 80
  its : Written own id 1 (headed 10 (sa_body ps) ++ (headed next (nonce_of own) ++ tail)) m

module _ {own : Own} {id : ℕ} {ps : List ℕ} {next : ℕ} {tail m : List ℕ} (p : Parts own id ps next tail m) where
  abbrev all : List ℕ
  all = p.its.all

  abbrev bytes : List ℕ
  bytes = p.its.bytes

  abbrev sa : List ℕ
  sa = sa_body ps

  abbrev nonce : List ℕ
  nonce = nonce_of own

  abbrev rest : List ℕ
  rest = tail ++ zeros p.its.pad

  is_all : all ≡ headed 1 bytes ++ (headed 10 sa ++ (headed next nonce ++ rest))
  is_all = p.its.is ∙ ap (λ (t : List ℕ). headed 1 bytes ++ t) (regrouped (headed 10 sa) (headed next nonce) tail (zeros p.its.pad))

  size-all : length all ≡ 52 + (length ps + length nonce) + (length tail + p.its.pad)
  size-all =
      p.its.long
      ∙ omega (
        arith,
        length-append (headed 10 sa) (headed next nonce ++ tail),
        length-append (headed next nonce) tail,
        length_headed 10 sa,
        length_headed next nonce,
        length_sa ps,
      )

  frame : Frame own id m all
  frame = record {
    fit = p.fit;
    some_id = p.some_id;
    small-id = p.small-id;
    its_head = p.its.its_head;
    short = omega (arith, size-all, p.ps_few, p.tail_few, p.its.few, p.fit.nonce.1);
    even = p.its.even;
  }

  all-long : 76 < length m
  all-long = omega (arith, size-all, p.its.its_head.long, p.fit.nonce.0)

  front_hash : Front all 1 bytes (headed 10 sa ++ (headed next nonce ++ rest))
  front_hash = front_is all 1 bytes (headed 10 sa ++ (headed next nonce ++ rest)) is_all (omega (arith, p.its.thirty_two))

  front_sa : Front (headed 10 sa ++ (headed next nonce ++ rest)) 10 sa (headed next nonce ++ rest)
  front_sa = front_of 10 sa (headed next nonce ++ rest) (omega (arith, length_sa ps, p.ps_few))

  front_nonce : Front (headed next nonce ++ rest) next nonce rest
  front_nonce = front_of next nonce rest (omega (arith, p.fit.nonce.1))

  right-nonce : Right 32 true 10 nonce
  right-nonce = nonce-right nonce p.fit.nonce.0 p.fit.nonce.1

  -- where the nonce payload stands, and what follows it
  abbrev place : ℕ
  place = 28 + (4 + length bytes) + (4 + length sa)

  abbrev place-behind : ℕ
  place-behind = place + (4 + length nonce)

  nonce-next : message m ≡ exchange_and_count 32 2 (chain 30 32 1 true 10 place (headed next nonce ++ rest))
  nonce-next =
      head-reads frame ∙ chain-on front_hash (hash-right bytes p.its.thirty_two) 31 28 0 (λ e. omega arith)
      ∙ chain-on front_sa (sa_right ps p.ps_read) 30 (28 + (4 + length bytes)) 1 (λ e. omega arith)

  lies_sa : Lies m 1 1 (28 + (4 + length bytes)) (headed 10 sa ++ (headed next nonce ++ rest))
  lies_sa = lies-on (head-lies frame) front_hash

  lies-nonce : Lies m 2 10 place (headed next nonce ++ rest)
  lies-nonce = lies-on lies_sa front_sa

  lies-behind : Lies m 3 next place-behind rest
  lies-behind = lies-on lies-nonce front_nonce

  body_sa : body_at 1 m ≡ sa
  body_sa = lies-body lies_sa front_sa

  body-nonce : body_at 2 m ≡ nonce
  body-nonce = lies-body lies-nonce front_nonce

  -- "8-1-10": nothing but the padding follows the nonce
  three-read : tail ≡ [] → next ≡ 0 → message m ≡ Read 32 3
  three-read none last =
      nonce-next ∙ chain-last front_nonce right-nonce 29 place 2 last (rw none (rest-passes p.its.pad p.its.few))

  is-three : shape 3 m ≡ 3
  is-three = shape-three m (lies_type (head-lies frame)) (lies_type lies_sa) (lies_type lies-nonce)

  -- "8-1-10-5-5"
  module _ (one two : List ℕ) (five : next ≡ 5) (goes : tail ≡ headed 5 one ++ headed 0 two) (right-one : identity_code 32 one ≡ 0)
      (right-two : identity_code 32 two ≡ 0) where
    abbrev last : List ℕ
    last = headed 0 two ++ zeros p.its.pad

    rest_goes : rest ≡ headed 5 one ++ last
    rest_goes = ap (λ (t : List ℕ). t ++ zeros p.its.pad) goes ∙ append_assoc (headed 5 one) (headed 0 two) (zeros p.its.pad)

    front_one : Front rest 5 one last
    front_one = front_is rest 5 one last rest_goes (omega (arith, (identity_size one right-one).1))

    front_two : Front last 0 two (zeros p.its.pad)
    front_two = front_of 0 two (zeros p.its.pad) (omega (arith, (identity_size two right-two).1))

    five_read : message m ≡ Read 32 5
    five_read =
        nonce-next ∙ chain-on front_nonce right-nonce 29 place 2 (λ e. omega arith)
        ∙ ap (λ (type : ℕ). exchange_and_count 32 3 (chain 29 32 1 true type place-behind rest)) five
        ∙ chain-on front_one (identity_right one right-one) 28 place-behind 3 (λ e. omega arith)
        ∙ chain-last front_two (identity_right two right-two) 27 (place-behind + (4 + length one)) 4 refl (rest-passes p.its.pad p.its.few)

    lies-two : Lies m 4 5 (place-behind + (4 + length one)) last
    lies-two = lies-on lies-behind front_one

    is_five : shape 5 m ≡ 5
    is_five = shape_five m (lies_type (head-lies frame)) (lies_type lies_sa) (lies_type lies-nonce) (lies_type lies-behind ∙ five) (lies_type lies-two)

    body-one : body_at 3 m ≡ one
    body-one = lies-body lies-behind front_one

    body-two : body_at 4 m ≡ two
    body-two = lies-body lies-two front_two

parts-of : (own : Own) (id : ℕ) (ps first second : List ℕ) → Fit own → 0 < id → id < 4294967296 → proposals_code 16 32 0 proposals.none ps ≡ 0 →
    length ps ≤ 576 → (next : ℕ) (tail m : List ℕ) →
    nonce_and_identities (nonce_of own) first second ≡ headed next (nonce_of own) ++ tail → length tail ≤ 80 → alike m (longer own id ps first second) ≡ true →
    Parts own id ps next tail m
unfolding longer sa_of
parts-of own id ps first second fit some small ps_read ps_few next tail m follows few a = record {
  fit = fit;
  some_id = some;
  small-id = small;
  ps_read = ps_read;
  ps_few = ps_few;
  tail_few = few;
  its = written own id 1 (headed 10 (sa_body ps) ++ (headed next (nonce_of own) ++ tail)) m
      (ap (λ (t : List ℕ). alike m (message_of own id (hash 1 ++ (headed 10 (sa_body ps) ++ t)))) (sym follows) ∙ a);
}

-- ---- the two longer shapes

-- "the nonce body as it stands in that role's message"
nonce-read : (m : List ℕ) (count : ℕ) → (count ≡ 3) ⊎ (count ≡ 5) → message m ≡ Read 32 count → shape count m ≡ count → nonce_in m ≡ body_at 2 m
unfolding nonce_in nonce_read is_longer
nonce-read m count (inl e) reads s = rw (reads, s, e)
nonce-read m count (inr e) reads s = rw (reads, s, e)

identity_none : (k : ℕ) (m : List ℕ) → shape_of m ≡ 3 → identity_at k m ≡ []
unfolding identity_at
identity_none k m s = rw s

identity_some : (k : ℕ) (m : List ℕ) → shape_of m ≡ 5 → identity_at k m ≡ body_at k m
unfolding identity_at
identity_some k m s = rw s

-- the count of payloads, and what stands behind the nonce
with_none : (first : List ℕ) → first ≡ [] → payloads_with first ≡ 3
unfolding payloads_with
with_none first e = rw e

with-some : (first : List ℕ) → 4 ≤ length first → payloads_with first ≡ 5
unfolding payloads_with
with-some first h = rw (ne_eqb (length first) 0 (λ e. omega arith))

behind-none : (nonce first second : List ℕ) → first ≡ [] → nonce_and_identities nonce first second ≡ headed 0 nonce ++ []
unfolding nonce_and_identities
behind-none nonce first second e = rw e (sym (append-nil (headed 0 nonce)))

behind-some : (nonce first second : List ℕ) → 4 ≤ length first → nonce_and_identities nonce first second ≡ headed 5 nonce ++ (headed 5 first ++ headed 0 second)
unfolding nonce_and_identities
behind-some nonce first second h = rw (ne_eqb (length first) 0 (λ e. omega arith))

length_some : (first second : List ℕ) → length first ≤ 36 → length second ≤ 36 → length (headed 5 first ++ headed 0 second) ≤ 80
length_some first second one two = omega (arith, length-append (headed 5 first) (headed 0 second), length_headed 5 first, length_headed 0 second)

-- what both shapes have alike
module _ {own : Own} {id : ℕ} {ps : List ℕ} {next : ℕ} {tail m : List ℕ} (p : Parts own id ps next tail m) (count : ℕ) (which : (count ≡ 3) ⊎ (count ≡ 5))
    (reads : message m ≡ Read 32 count) (shaped : shape count m ≡ count) where
  longer-of : (first second : List ℕ) → payloads_with first ≡ count → identity_at 3 m ≡ first → identity_at 4 m ≡ second → Longer own id ps first second m
  longer-of first second e one two = record {
    framed = head_framed (frame p);
    reads = reads ∙ ap (λ (n : ℕ). Read 32 n) (sym e);
    shape = shape-read m count reads shaped ∙ sym e;
    long = all-long p;
    sa = body_sa p;
    nonce = nonce-read m count which reads shaped ∙ body-nonce p;
    identity_one = one;
    identity_two = two;
  }

pub longer-reads : (own : Own) (id : ℕ) (ps first second : List ℕ) → Fit own → 0 < id → id < 4294967296 → Identities first second →
    proposals_code 16 32 0 proposals.none ps ≡ 0 → length ps ≤ 576 → (m : List ℕ) → alike m (longer own id ps first second) ≡ true →
    Longer own id ps first second m
longer-reads own id ps first second fit some small (inl (None-first, none-second)) ps_read ps_few m a =
    let p : Parts own id ps 0 [] m =
    parts-of own id ps first second fit some small ps_read ps_few 0 [] m (behind-none (nonce_of own) first second None-first) (omega arith) a in
    let reads : message m ≡ Read 32 3 = three-read p refl refl in
    let shape-of : shape_of m ≡ 3 = shape-read m 3 reads (is-three p) in
    longer-of p 3 (inl refl) reads (is-three p) first second (with_none first None-first) (identity_none 3 m shape-of ∙ sym None-first)
    (identity_none 4 m shape-of ∙ sym none-second)
longer-reads own id ps first second fit some small (inr (right-one, right-two)) ps_read ps_few m a =
    let long-first : 4 ≤ length first = (identity_size first right-one).0 in
    let few : length (headed 5 first ++ headed 0 second) ≤ 80 =
    length_some first second (identity_size first right-one).1 (identity_size second right-two).1 in
    let p : Parts own id ps 5 (headed 5 first ++ headed 0 second) m =
    parts-of own id ps first second fit some small ps_read ps_few 5 (headed 5 first ++ headed 0 second) m
    (behind-some (nonce_of own) first second long-first) few a in
    let reads : message m ≡ Read 32 5 = five_read p first second refl refl right-one right-two in
    let shaped : shape 5 m ≡ 5 = is_five p first second refl refl right-one right-two in
    let shape-of : shape_of m ≡ 5 = shape-read m 5 reads shaped in
    longer-of p 5 (inr refl) reads shaped first second (with-some first long-first)
    (identity_some 3 m shape-of ∙ body-one p first second refl refl right-one right-two)
    (identity_some 4 m shape-of ∙ body-two p first second refl refl right-one right-two)

-- ---- the checks of a delivery

module _ (own other : Own) (id : ℕ) (m : List ℕ) (framed : Framed own id m) (same-icookie : other.icookie ≡ own.icookie)
    (same-rcookie : other.rcookie ≡ own.rcookie) where
  cookies-right : cookies_not_own other m ≡ false
  unfolding cookies_not_own
  cookies-right =
      rw (framed.icookie, framed.rcookie, same-icookie, same-rcookie, eq-eqb own.icookie own.icookie refl, eq-eqb own.rcookie own.rcookie refl)

  -- "message ID (9; an Idle responder takes it)"
  id_right : (state : State) (at : ℕ) → (is_idle state ≡ true) ⊎ (at ≡ id) → (not (is_idle state) && not (eqb (number_at 4 m 20) at)) ≡ false
  id_right state at (inl idle) = rw idle
  id_right state at (inr same) = by_test (is_idle state) (λ e. rw e) (λ e. rw (e, eq-eqb (number_at 4 m 20) at (framed.its_id ∙ sym same)))

  quick-passes : (state : State) (at count : ℕ) → (is_initiator other.role && is_idle state) ≡ false → (is_idle state ≡ true) ⊎ (at ≡ id) →
      shape count m ≡ count → 0 < count → quick_code other state at 32 count m ≡ 0
  unfolding quick_code
  quick-passes state at count role given shaped some =
      rw (framed.flag, role, cookies-right, id_right state at given, shaped, ne_eqb count 0 (λ e. omega arith), le-ltb 2048 (length m) framed.short)

  read-passes : (state : State) (at count : ℕ) → (is_initiator other.role && is_idle state) ≡ false → (is_idle state ≡ true) ⊎ (at ≡ id) →
      message m ≡ Read 32 count → shape_of m ≡ count → 0 < count → read_code other state at m (message m) ≡ 0
  unfolding read_code shape_of count_of
  read-passes state at count role given reads shaped some = rw reads (quick-passes state at count role given (rw reads at shaped) some)

payloads-some : (first : List ℕ) → 0 < payloads_with first
unfolding payloads_with
payloads-some first = by_test (eqb (length first) 0) (λ e. rw e (omega arith)) (λ e. rw e (omega arith))

pub longer-passes : (own other : Own) (id : ℕ) (ps first second m : List ℕ) → Longer own id ps first second m →
    other.icookie ≡ own.icookie → other.rcookie ≡ own.rcookie → (state : State) (at : ℕ) →
    (is_initiator other.role && is_idle state) ≡ false → (is_idle state ≡ true) ⊎ (at ≡ id) → read_code other state at m (message m) ≡ 0
longer-passes own other id ps first second m l same-icookie same-rcookie state at role given =
    read-passes own other id m l.framed same-icookie same-rcookie state at (payloads_with first) role given l.reads l.shape (payloads-some first)

pub third_passes : (own other : Own) (id : ℕ) (m : List ℕ) → Third own id m →
    other.icookie ≡ own.icookie → other.rcookie ≡ own.rcookie → (state : State) (at : ℕ) →
    (is_initiator other.role && is_idle state) ≡ false → (is_idle state ≡ true) ⊎ (at ≡ id) → read_code other state at m (message m) ≡ 0
third_passes own other id m t same-icookie same-rcookie state at role given =
    read-passes own other id m t.framed same-icookie same-rcookie state at 1 role given t.reads t.shape (omega arith)
