-- A law for each way out of the functions on proposals.
use Prim.Native.Nat.{ℕ, zero, suc, ◌+◌, ◌-◌, ◌≤◌, ◌<◌}
use mathlib.Core.Path.{◌≡◌, refl}
use mathlib.Core.List.{List}
use mathlib.Core.Bool.{Bool, true, false, not, ◌&&◌, ◌||◌}
use native.Mathlib.Omega.{arith}
use lib.ListN.{length, get_or, take, drop}
use lib.Dec.{eqb, leb, ltb}
use borrow.Author.Tests.{eq-eqb, ne_eqb, lt-ltb, le-ltb}
use Rattle.wire_read.specs.Wire.{number_at}
use Rattle.wire_read.specs.Tests.{if◌then◌otherwise◌}
use Rattle.sa_transforms.specs.Transforms.{transforms_code}
use Rattle.sa_proposals.specs.Proposals.{proposal_wrong, has, with, none, set_before, order_wrong, protocol_wrong, spi_wrong, count_wrong, transform_bytes, inner_code, proposal_code, proposals_code, offer_code}
use Rattle.sa_proposals.specs.declared.Protocols.{Protocols}

-- ---- one proposal

pub wrong_fields : (s : List ℕ) (next reserved n size : ℕ) → next ≡ get_or s 0 0 → n ≡ number_at 2 s 2 → reserved ≡ get_or s 1 0 → size ≡ get_or s 6 0 →
    (ltb (length s) 8 || not (eqb next 0 || eqb next 2) || not (eqb reserved 0) || ltb n (8 + size) || ltb (length s) n) ≡ proposal_wrong s
unfolding proposal_wrong
wrong_fields s next reserved n size ex en er es = rw (← ex, ← en, ← er, ← es)

pub wrong_order : (previous : ℕ) (set before : Protocols) (s : List ℕ) (number protocol : ℕ) (twice : Bool) → number ≡ get_or s 4 0 →
    before ≡ set_before previous set number → protocol ≡ get_or s 5 0 → twice ≡ has before protocol → (ltb number previous || twice) ≡ order_wrong previous set s
unfolding order_wrong
wrong_order previous set before s number protocol twice en eb ep et = rw (← en, ← eb, ← ep, ← et)

pub wrong_spi : (exchange : ℕ) (s : List ℕ) (size spi : ℕ) → size ≡ get_or s 6 0 → spi ≡ number_at 4 s 8 →
    not (eqb exchange 2 && eqb size 0 || eqb exchange 32 && eqb size 4 && leb 256 spi) ≡ spi_wrong exchange s
unfolding spi_wrong
wrong_spi exchange s size spi es ei = rw (← es, ← ei)

pub transforms-taken : (s own r : List ℕ) (n size : ℕ) → n ≡ number_at 2 s 2 → own ≡ take n s → size ≡ get_or s 6 0 → r ≡ drop (8 + size) own →
    r ≡ transform_bytes s
unfolding transform_bytes
transforms-taken s own r n size en eo es er = rw (← en, ← eo, ← es) er

module _ (previous : ℕ) (set : Protocols) (number : ℕ) where
  pub set-goes-on : number ≡ previous → set ≡ set_before previous set number
  unfolding set_before
  set-goes-on h = rw (eq-eqb number previous h)

  pub set-begins : (number ≡ previous → ⊥) → (r : Protocols) → r ≡ none → r ≡ set_before previous set number
  unfolding set_before
  set-begins h r e = rw (ne_eqb number previous h) e

module _ (exchange : ℕ) (s : List ℕ) (count : ℕ) (inner : List ℕ) (code : ℕ) (en : count ≡ get_or s 7 0) (ei : inner ≡ transform_bytes s)
    (ec : code ≡ transforms_code count exchange 0 inner) where
  is : transforms_code (get_or s 7 0) exchange 0 (transform_bytes s) ≡ code
  is = cc

  pub inner_refused : (code ≡ 0 → ⊥) → code ≡ inner_code exchange s
  unfolding inner_code
  inner_refused h = rw (is, ne_eqb code 0 h)

  module _ (fine : code ≡ 0) (next : ℕ) (ex : next ≡ get_or s 0 0) where
    pub inner_next : (eqb exchange 2 && eqb next 2) ≡ true → 15 ≡ inner_code exchange s
    unfolding inner_code
    inner_next h = rw (is, fine, ← ex, h)

    pub inner_done : (eqb exchange 2 && eqb next 2) ≡ false → 0 ≡ inner_code exchange s
    unfolding inner_code
    inner_done h = rw (is, fine, ← ex, h)

module _ (exchange previous : ℕ) (set : Protocols) (s : List ℕ) (w : Bool) (ew : w ≡ proposal_wrong s) where
  pub proposal_wrong_lem : w ≡ true → 15 ≡ proposal_code exchange previous set s
  unfolding proposal_code
  proposal_wrong_lem h = rw (← ew, h)

  module _ (right : w ≡ false) (o : Bool) (eo : o ≡ order_wrong previous set s) where
    pub proposal_order : o ≡ true → 15 ≡ proposal_code exchange previous set s
    unfolding proposal_code
    proposal_order h = rw (← ew, right, ← eo, h)

    module _ (ordered : o ≡ false) (protocol : ℕ) (p : Bool) (ex : protocol ≡ get_or s 5 0) (ep : p ≡ protocol_wrong exchange protocol) where
      lies : protocol_wrong exchange (get_or s 5 0) ≡ p
      lies = cc

      pub proposal-protocol : p ≡ true → 10 ≡ proposal_code exchange previous set s
      unfolding proposal_code
      proposal-protocol h = rw (← ew, right, ← eo, ordered, lies, h)

      module _ (known : p ≡ false) (i : Bool) (ei : i ≡ spi_wrong exchange s) where
        pub proposal-spi : i ≡ true → 11 ≡ proposal_code exchange previous set s
        unfolding proposal_code
        proposal-spi h = rw (← ew, right, ← eo, ordered, lies, known, ← ei, h)

        module _ (keyed : i ≡ false) (c : Bool) (ec : c ≡ count_wrong s) where
          pub proposal-count : c ≡ true → 15 ≡ proposal_code exchange previous set s
          unfolding proposal_code
          proposal-count h = rw (← ew, right, ← eo, ordered, lies, known, ← ei, keyed, ← ec, h)

          pub proposal_inner : c ≡ false → (r : ℕ) → r ≡ inner_code exchange s → r ≡ proposal_code exchange previous set s
          unfolding proposal_code
          proposal_inner h r er = rw (← ew, right, ← eo, ordered, lies, known, ← ei, keyed, ← ec, h) er

-- ---- all of them

proposals-step : (left exchange previous : ℕ) (set : Protocols) (s : List ℕ) → (left ≡ 0 → ⊥) →
    proposals_code left exchange previous set s
    ≡ (if not (eqb (proposal_code exchange previous set s) 0) then proposal_code exchange previous set s
    otherwise if eqb (get_or s 0 0) 0 then (if eqb (length (drop (number_at 2 s 2) s)) 0 then 0 otherwise 15)
    otherwise proposals_code (left - 1) exchange (get_or s 4 0) (with (set_before previous set (get_or s 4 0)) (get_or s 5 0)) (drop (number_at 2 s 2) s))
unfolding proposals_code
proposals-step zero exchange previous set s h = absurd (h refl)
proposals-step (suc left) exchange previous set s h = let i : suc left - 1 ≡ left = omega arith in rw i

module _ (left exchange previous : ℕ) (set : Protocols) (s : List ℕ) where
  pub proposals-many : left ≡ 0 → 15 ≡ proposals_code left exchange previous set s
  unfolding proposals_code
  proposals-many z = rw z

  module _ (may : left ≡ 0 → ⊥) (code : ℕ) (ec : code ≡ proposal_code exchange previous set s) where
    pub proposals-refused : (code ≡ 0 → ⊥) → code ≡ proposals_code left exchange previous set s
    proposals-refused h = rw (proposals-step left exchange previous set s may, ← ec, ne_eqb code 0 h)

    module _ (fine : code ≡ 0) (n next : ℕ) (rest : List ℕ) (el : n ≡ number_at 2 s 2) (er : rest ≡ drop n s) (ex : next ≡ get_or s 0 0) where
      pub proposals-end : next ≡ 0 → length rest ≡ 0 → 0 ≡ proposals_code left exchange previous set s
      proposals-end z h = rw (proposals-step left exchange previous set s may, ← ec, fine, ← ex, z, ← el, ← er, eq-eqb (length rest) 0 h)

      pub proposals_over : next ≡ 0 → (length rest ≡ 0 → ⊥) → 15 ≡ proposals_code left exchange previous set s
      proposals_over z h = rw (proposals-step left exchange previous set s may, ← ec, fine, ← ex, z, ← el, ← er, ne_eqb (length rest) 0 h)

      pub proposals-on : (next ≡ 0 → ⊥) → (number protocol r : ℕ) (before now : Protocols) → number ≡ get_or s 4 0 → protocol ≡ get_or s 5 0 →
          before ≡ set_before previous set number → now ≡ with before protocol → r ≡ proposals_code (left - 1) exchange number now rest →
          r ≡ proposals_code left exchange previous set s
      proposals-on z number protocol r before now en ep eb ew e =
          rw (proposals-step left exchange previous set s may, ← ec, fine, ← ex, ne_eqb next 0 z, ← el, ← er, ← en, ← ep, ← eb, ← ew) e

-- ---- the body

module _ (exchange : ℕ) (s : List ℕ) where
  pub offer-short : length s < 8 → 15 ≡ offer_code exchange s
  unfolding offer_code
  offer-short h = rw (lt-ltb (length s) 8 h)

  module _ (long : 8 ≤ length s) (doi : ℕ) (ed : doi ≡ number_at 4 s 0) where
    pub offer_doi : (doi ≡ 1 → ⊥) → 2 ≡ offer_code exchange s
    unfolding offer_code
    offer_doi h = rw (le-ltb (length s) 8 long, ← ed, ne_eqb doi 1 h)

    module _ (one : doi ≡ 1) (situation : ℕ) (es : situation ≡ number_at 4 s 4) where
      pub offer_situation : (situation ≡ 1 → ⊥) → 3 ≡ offer_code exchange s
      unfolding offer_code
      offer_situation h = rw (le-ltb (length s) 8 long, ← ed, one, ← es, ne_eqb situation 1 h)

      pub offer-proposals : situation ≡ 1 → (start : Protocols) (rest : List ℕ) (r : ℕ) → start ≡ none → rest ≡ drop 8 s →
          r ≡ proposals_code 16 exchange 0 start rest → r ≡ offer_code exchange s
      unfolding offer_code
      offer-proposals h start rest r e0 er e = rw (le-ltb (length s) 8 long, ← ed, one, ← es, h, ← e0, ← er) e
