-- What a payload that is not refused is, and when an SA payload is not.
use Prim.Native.Nat.{ℕ, ◌≤◌}
use mathlib.Core.Path.{◌≡◌, ap}
use mathlib.Core.List.{List}
use mathlib.Core.Bool.{Bool, false, not}
use native.Mathlib.Omega.{arith}
use lib.ListN.{length, get_or, drop}
use lib.Seq.{take-length}
use lib.Dec.{ltb, eqb}
use borrow.Author.Tests.{ne_eqb, ltb-false, le-ltb}
use Rattle.wire_read.specs.Wire.{number_at}
use Rattle.wire_read.proofs.Tests.{neither, passed}
use Rattle.sa_proposals.specs.Proposals.{offer_code}
use Rattle.message_payload.specs.Payloads.{type_wrong, length_out, body_code, body_of, payload_code}

-- a payload that is not refused ends within its message, and its body is not refused
payload-body : (exchange : ℕ) (offered : Bool) (type : ℕ) (s : List ℕ) → payload_code exchange offered type s ≡ 0 →
    (number_at 2 s 2 ≤ length s) × (body_code exchange offered type (body_of s) ≡ 0)
unfolding payload_code length_out
payload-body exchange offered type s h =
    let allowed = passed (type_wrong exchange type) 1 _ (λ z. omega arith) h in
    let long = passed (ltb (length s) 4) 16 _ (λ z. omega arith) allowed.1 in
    let reserved = passed (not (eqb (get_or s 1 0) 0)) 16 _ (λ z. omega arith) long.1 in
    let bounds = passed (length_out s) 30 _ (λ z. omega arith) reserved.1 in
    (ltb-false (length s) (number_at 2 s 2) (neither (ltb (number_at 2 s 2) 4) (ltb (length s) (number_at 2 s 2)) bounds.0).1, bounds.1)

pub payload-within : (exchange : ℕ) (offered : Bool) (type : ℕ) (s : List ℕ) → payload_code exchange offered type s ≡ 0 → number_at 2 s 2 ≤ length s
payload-within exchange offered type s h = (payload-body exchange offered type s h).0

-- "a second SA payload is 15 unread": one that is not refused reads
offer-body : (exchange : ℕ) (offered : Bool) (type : ℕ) (body : List ℕ) → type ≡ 1 → body_code exchange offered type body ≡ 0 → offer_code exchange body ≡ 0
unfolding body_code
offer-body exchange offered type body e h = (passed offered 15 (offer_code exchange body) (λ z. omega arith) (rw e at h)).1

pub payload-offer : (exchange : ℕ) (offered : Bool) (type : ℕ) (s : List ℕ) → payload_code exchange offered type s ≡ 0 → type ≡ 1 →
    offer_code exchange (body_of s) ≡ 0
payload-offer exchange offered type s h e = offer-body exchange offered type (body_of s) e (payload-body exchange offered type s h).1

-- the SA payload at the front of s passes where its body reads
pub sa_payload : (exchange : ℕ) (s : List ℕ) → (exchange ≡ 5 → ⊥) → get_or s 1 0 ≡ 0 → 4 ≤ number_at 2 s 2 → number_at 2 s 2 ≤ length s →
    offer_code exchange (body_of s) ≡ 0 → payload_code exchange false 1 s ≡ 0
unfolding payload_code type_wrong length_out body_code
sa_payload exchange s other reserved long within reads =
    rw (ne_eqb exchange 5 other, le-ltb (length s) 4 (omega arith), reserved, le-ltb (number_at 2 s 2) 4 long, le-ltb (length s) (number_at 2 s 2) within) reads

-- and the body of a payload that is as long as it says
pub body-whole : (p : List ℕ) → number_at 2 p 2 ≡ length p → body_of p ≡ drop 4 p
unfolding body_of
body-whole p lies = rw lies (ap (drop 4) (take-length p))
