-- A law for each way out of this crate's functions.
use Prim.Native.Nat.{ℕ, ◌≤◌, ◌<◌}
use mathlib.Core.Path.{◌≡◌}
use mathlib.Core.List.{List}
use mathlib.Core.Bool.{Bool, true, false, ◌||◌}
use lib.ListN.{length, get_or, take, drop}
use lib.Dec.{ltb, eqb}
use borrow.Author.Tests.{eq-eqb, ne_eqb, lt-ltb, le-ltb}
use Rattle.wire_read.specs.Wire.{number_at, all_zero}
use Rattle.sa_proposals.specs.Proposals.{offer_code}
use Rattle.message_payload.specs.Payloads.{type_wrong, length_out, certificate_code, body_code, body_of, payload_code, rest_code}

-- ---- bodies

pub body-taken : (s own r : List ℕ) (n : ℕ) → n ≡ number_at 2 s 2 → own ≡ take n s → r ≡ drop 4 own → r ≡ body_of s
unfolding body_of
body-taken s own r n en eo er = rw (← en, ← eo) er

module _ (body : List ℕ) where
  pub certificate_empty : length body ≡ 0 → 16 ≡ certificate_code body
  unfolding certificate_code
  certificate_empty h = rw (eq-eqb (length body) 0 h)

  module _ (some : length body ≡ 0 → ⊥) (encoding : ℕ) (ee : encoding ≡ get_or body 0 0) where
    pub certificate_known : (eqb encoding 4 || eqb encoding 5) ≡ true → 0 ≡ certificate_code body
    unfolding certificate_code
    certificate_known h = rw (ne_eqb (length body) 0 some, ← ee, h)

    pub certificate_unknown : (eqb encoding 4 || eqb encoding 5) ≡ false → 19 ≡ certificate_code body
    unfolding certificate_code
    certificate_unknown h = rw (ne_eqb (length body) 0 some, ← ee, h)

module _ (exchange : ℕ) (offered : Bool) (type : ℕ) (body : List ℕ) where
  pub body-second : type ≡ 1 → offered ≡ true → 15 ≡ body_code exchange offered type body
  unfolding body_code
  body-second e h = rw (e, h)

  pub body-offer : type ≡ 1 → offered ≡ false → (r : ℕ) → r ≡ offer_code exchange body → r ≡ body_code exchange offered type body
  unfolding body_code
  body-offer e h r er = rw (e, h) er

  pub body_opaque : (type ≡ 1 → ⊥) → (type ≡ 5 → ⊥) → (type ≡ 6 → ⊥) → (type ≡ 8 → ⊥) → (type ≡ 10 → ⊥) → 0 ≡ body_code exchange offered type body
  unfolding body_code
  body_opaque n1 n5 n6 n8 n10 = rw (ne_eqb type 1 n1, ne_eqb type 5 n5, ne_eqb type 6 n6, ne_eqb type 8 n8, ne_eqb type 10 n10)

-- ---- one payload

module _ (exchange : ℕ) (offered : Bool) (type : ℕ) (s : List ℕ) (w : Bool) (ew : w ≡ type_wrong exchange type) where
  pub payload_type : w ≡ true → 1 ≡ payload_code exchange offered type s
  unfolding payload_code
  payload_type h = rw (← ew, h)

  module _ (allowed : w ≡ false) where
    pub payload-short : length s < 4 → 16 ≡ payload_code exchange offered type s
    unfolding payload_code
    payload-short h = rw (← ew, allowed, lt-ltb (length s) 4 h)

    module _ (long : 4 ≤ length s) (reserved : ℕ) (er : reserved ≡ get_or s 1 0) where
      pub payload_reserved : (reserved ≡ 0 → ⊥) → 16 ≡ payload_code exchange offered type s
      unfolding payload_code
      payload_reserved h = rw (← ew, allowed, le-ltb (length s) 4 long, ← er, ne_eqb reserved 0 h)

      module _ (zeroed : reserved ≡ 0) (o : Bool) (eo : o ≡ length_out s) where
        pub payload_length : o ≡ true → 30 ≡ payload_code exchange offered type s
        unfolding payload_code
        payload_length h = rw (← ew, allowed, le-ltb (length s) 4 long, ← er, zeroed, ← eo, h)

        pub payload-body : o ≡ false → (body : List ℕ) (r : ℕ) → body ≡ body_of s → r ≡ body_code exchange offered type body →
            r ≡ payload_code exchange offered type s
        unfolding payload_code
        payload-body h body r eb e = rw (← ew, allowed, le-ltb (length s) 4 long, ← er, zeroed, ← eo, h, ← eb) e

-- ---- the rest

module _ (flags : ℕ) (rest : List ℕ) where
  pub rest-none : length rest ≡ 0 → 0 ≡ rest_code flags rest
  unfolding rest_code
  rest-none h = rw (eq-eqb (length rest) 0 h)

  module _ (some : length rest ≡ 0 → ⊥) where
    pub rest-long : (eqb flags 0 || ltb 15 (length rest)) ≡ true → 30 ≡ rest_code flags rest
    unfolding rest_code
    rest-long h = rw (ne_eqb (length rest) 0 some, h)

    module _ (short : (eqb flags 0 || ltb 15 (length rest)) ≡ false) (z : Bool) (ez : z ≡ all_zero rest) where
      pub rest_pad : z ≡ true → 0 ≡ rest_code flags rest
      unfolding rest_code
      rest_pad h = rw (ne_eqb (length rest) 0 some, short, ← ez, h)

      pub rest_nonzero : z ≡ false → 16 ≡ rest_code flags rest
      unfolding rest_code
      rest_nonzero h = rw (ne_eqb (length rest) 0 some, short, ← ez, h)
