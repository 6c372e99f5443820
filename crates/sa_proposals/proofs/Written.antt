-- What a writer must see to, so that the proposals it writes read: one or two of them, of one number, each with one transform.
use Prim.Native.Nat.{ℕ, suc, ◌+◌, ◌*◌, ◌≤◌}
use mathlib.Core.Path.{◌≡◌, refl, sym, ap, ◌∙◌, subst}
use mathlib.Core.Logic.{◌⊎◌, ⊎_elim}
use mathlib.Core.List.{List, [], ◌∷◌, ◌++◌, append-nil}
use mathlib.Core.Bool.{Bool, true, false, ◌||◌, ◌&&◌}
use native.Mathlib.Omega.{arith}
use lib.ListN.{length, get_or, take, drop, length-append}
use lib.Seq.{drop-length, take-append_seam, drop-append_seam, drop-drop}
use lib.Dec.{ltb, leb, eqb}
use borrow.Author.Tests.{eqb-true, eq-eqb, ne_eqb, le-ltb, le-leb}
use Rattle.wire_read.specs.Wire.{number_at}
use Rattle.wire_read.proofs.Tests.{by_test}
use Rattle.wire_read.proofs.Laws.{number_append, number-append_add}
use Rattle.sa_transforms.specs.Transforms.{transforms_code}
use Rattle.sa_transforms.proofs.Laws.{LawfulTransform, one-transform}
use Rattle.sa_proposals.specs.Proposals.{proposal_wrong, has, with, set_before, none, order_wrong, protocol_wrong, spi_wrong, count_wrong, transform_bytes, inner_code, proposal_code, proposals_code, offer_code}
use Rattle.sa_proposals.specs.declared.Protocols.{Protocols}
use Rattle.sa_proposals.proofs.Laws.{Item, first-lawful}

-- a proposal of one transform
abbrev pub proposed : ℕ → ℕ → ℕ → ℕ → ℕ → List ℕ → List ℕ → List ℕ
proposed next high low number protocol spi t = next ∷ 0 ∷ high ∷ low ∷ number ∷ protocol ∷ length spi ∷ 1 ∷ (spi ++ t)

-- "SPI size 0 and 4 respectively, SPI at least 256"
pub data Keyed : ℕ → List ℕ → Type 0 where
  unkeyed : Keyed 2 []
  keyed : {spi : List ℕ} → length spi ≡ 4 → 256 ≤ number_at 4 spi 0 → Keyed 32 spi

pub record Writes (exchange next high low protocol : ℕ) (spi t : List ℕ) : Type 0 where
  pub lies : high * 256 + low ≡ 8 + length (spi ++ t)
  pub followed : (next ≡ 0) ⊎ ((next ≡ 2) × (exchange ≡ 32))
  pub known : protocol_wrong exchange protocol ≡ false
  pub key : Keyed exchange spi
  pub lawful : LawfulTransform exchange t
  pub last : get_or t 0 0 ≡ 0

-- ---- the checks, passed one by one

module _ (s : List ℕ) where
  proposal-right : 8 ≤ length s → (eqb (get_or s 0 0) 0 || eqb (get_or s 0 0) 2) ≡ true → get_or s 1 0 ≡ 0 → 8 + get_or s 6 0 ≤ number_at 2 s 2 →
      number_at 2 s 2 ≤ length s → proposal_wrong s ≡ false
  unfolding proposal_wrong
  proposal-right long next reserved room within =
      rw (le-ltb (length s) 8 long, next, reserved, le-ltb (number_at 2 s 2) (8 + get_or s 6 0) room, le-ltb (length s) (number_at 2 s 2) within)

  inner_right : (exchange : ℕ) → transforms_code (get_or s 7 0) exchange 0 (transform_bytes s) ≡ 0 → (eqb exchange 2 && eqb (get_or s 0 0) 2) ≡ false →
      inner_code exchange s ≡ 0
  unfolding inner_code
  inner_right exchange h next = rw (h, next)

  proposal-passes : (exchange previous : ℕ) (set : Protocols) → proposal_wrong s ≡ false → order_wrong previous set s ≡ false →
      protocol_wrong exchange (get_or s 5 0) ≡ false → spi_wrong exchange s ≡ false → count_wrong s ≡ false → inner_code exchange s ≡ 0 →
      proposal_code exchange previous set s ≡ 0
  unfolding proposal_code
  proposal-passes exchange previous set a b c d e f = rw (a, b, c, d, e) f

next_known : (exchange next : ℕ) → (next ≡ 0) ⊎ ((next ≡ 2) × (exchange ≡ 32)) → (eqb next 0 || eqb next 2) ≡ true
next_known exchange next h = ⊎_elim (λ e. rw e) (λ e. rw e.0) h

next_fits : (exchange next : ℕ) → (next ≡ 0) ⊎ ((next ≡ 2) × (exchange ≡ 32)) → (eqb exchange 2 && eqb next 2) ≡ false
next_fits exchange next h = ⊎_elim (λ e. rw e (no_and (eqb exchange 2))) (λ e. rw e.1) h
  where
    no_and : (b : Bool) → (b && false) ≡ false
    no_and true = refl
    no_and false = refl

-- ---- one proposal

module _ (next high low number protocol : ℕ) (t rest : List ℕ) where
  key_value : (spi : List ℕ) → length spi ≡ 4 → number_at 4 (proposed next high low number protocol spi t ++ rest) 8 ≡ number_at 4 spi 0
  key_value spi four =
      number-append_add 4 (next ∷ 0 ∷ high ∷ low ∷ number ∷ protocol ∷ length spi ∷ 1 ∷ []) ((spi ++ t) ++ rest) 0
      ∙ number_append 4 (spi ++ t) rest 0 (omega (arith, length-append spi t)) ∙ number_append 4 spi t 0 (omega arith)

  key_right : {exchange : ℕ} {spi : List ℕ} → Keyed exchange spi → spi_wrong exchange (proposed next high low number protocol spi t ++ rest) ≡ false
  unfolding spi_wrong
  key_right unkeyed = refl
  key_right (keyed {spi = spi} four big) =
      let value : ℕ = number_at 4 (proposed next high low number protocol spi t ++ rest) 8 in
      let high-enough : leb 256 value ≡ true = le-leb 256 value (omega (arith, key_value spi four)) in
      rw (eq-eqb (length spi) 4 four, high-enough)

module _ (exchange next high low number protocol : ℕ) (spi t : List ℕ) (w : Writes exchange next high low protocol spi t) (rest : List ℕ) where
  abbrev this : List ℕ
  this = proposed next high low number protocol spi t

  abbrev whole : List ℕ
  whole = this ++ rest

  pub proposed_size : number_at 2 whole 2 ≡ length this
  unfolding number_at
  proposed_size = omega (arith, w.lies)

  pub proposed_transforms : transform_bytes whole ≡ t
  unfolding transform_bytes
  proposed_transforms =
      ap (λ (n : ℕ). drop (8 + length spi) (take n whole)) proposed_size
      ∙ ap (drop (8 + length spi)) (take-append_seam this rest)
      ∙ sym (drop-drop (length spi) 8 this) ∙ drop-append_seam spi t

  spi-right : spi_wrong exchange whole ≡ false
  spi-right = key_right next high low number protocol t rest w.key

  pub proposed_code : (previous : ℕ) (set : Protocols) → order_wrong previous set whole ≡ false → proposal_code exchange previous set whole ≡ 0
  unfolding count_wrong
  proposed_code previous set order =
      let long : 8 ≤ length whole = omega arith in
      let room : 8 + length spi ≤ number_at 2 whole 2 = omega (arith, proposed_size, length-append spi t) in
      let within : number_at 2 whole 2 ≤ length whole = omega (arith, proposed_size, length-append this rest) in
      let right = proposal-right whole long (next_known exchange next w.followed) refl room within in
      let inner : transforms_code 1 exchange 0 (transform_bytes whole) ≡ 0 = rw proposed_transforms (one-transform exchange t w.lawful w.last) in
      let passes = inner_right whole exchange inner (next_fits exchange next w.followed) in
      proposal-passes whole exchange previous set right order w.known spi-right refl passes

  pub proposed_lawful : (previous : ℕ) (set : Protocols) → order_wrong previous set whole ≡ false → Item exchange this
  proposed_lawful previous set order =
      let item = first-lawful exchange previous set whole (proposed_code previous set order) in
      let first : take (number_at 2 whole 2) whole ≡ this = rw proposed_size (take-append_seam this rest) in
      rw first at item

pub alone-transforms : (exchange next high low number protocol : ℕ) (spi t : List ℕ) → Writes exchange next high low protocol spi t →
    transform_bytes (proposed next high low number protocol spi t) ≡ t
alone-transforms exchange next high low number protocol spi t w =
    subst (λ (l : List ℕ). transform_bytes l ≡ t) (append-nil (proposed next high low number protocol spi t))
    (proposed_transforms exchange next high low number protocol spi t w [])

-- ---- one proposal after the other

pub order_first : (s : List ℕ) → order_wrong 0 none s ≡ false
unfolding order_wrong set_before none has
order_first s = rw (le-ltb (get_or s 4 0) 0 (omega arith)) (by_test (eqb (get_or s 4 0) 0) (λ e. rw e) (λ e. rw e))

not-both : (a b k : ℕ) → (a ≡ b → ⊥) → (eqb a k && eqb b k) ≡ false
not-both a b k h = by_test (eqb a k) (λ e. rw e (ne_eqb b k (λ f. h (eqb-true a k e ∙ sym f)))) (λ e. rw e)

order_second : (number a b : ℕ) (s : List ℕ) → get_or s 4 0 ≡ number → get_or s 5 0 ≡ b → (a ≡ b → ⊥) →
    order_wrong number (with (set_before 0 none number) a) s ≡ false
unfolding order_wrong set_before none has with
order_second number a b s en eb h =
    let same : eqb number number ≡ true = eq-eqb number number refl in
    let up : ltb number number ≡ false = le-ltb number number (omega arith) in
    rw (en, eb, up, same) (by_test (eqb number 0)
    (λ e. rw (e, not-both a b 1 h, not-both a b 2 h, not-both a b 3 h))
    (λ e. rw (e, not-both a b 1 h, not-both a b 2 h, not-both a b 3 h)))

module _ (left exchange previous : ℕ) (set : Protocols) (s : List ℕ) (fine : proposal_code exchange previous set s ≡ 0) where
  pub last-proposal : get_or s 0 0 ≡ 0 → length (drop (number_at 2 s 2) s) ≡ 0 → proposals_code (suc left) exchange previous set s ≡ 0
  unfolding proposals_code
  last-proposal z e = rw (fine, z, e)

  pub more-proposals : (get_or s 0 0 ≡ 0 → ⊥) →
      proposals_code left exchange (get_or s 4 0) (with (set_before previous set (get_or s 4 0)) (get_or s 5 0)) (drop (number_at 2 s 2) s) ≡ 0 →
      proposals_code (suc left) exchange previous set s ≡ 0
  unfolding proposals_code
  more-proposals z e = rw (fine, ne_eqb (get_or s 0 0) 0 z) e

-- the last proposal, behind nothing or behind others
module _ (exchange high low number protocol : ℕ) (spi t : List ℕ) (w : Writes exchange 0 high low protocol spi t) where
  abbrev last_one : List ℕ
  last_one = proposed 0 high low number protocol spi t

  last-size : number_at 2 last_one 2 ≡ length last_one
  unfolding number_at
  last-size = omega (arith, w.lies)

  last-reads : (left previous : ℕ) (set : Protocols) → order_wrong previous set last_one ≡ false → proposals_code (suc left) exchange previous set last_one ≡ 0
  last-reads left previous set order =
      let same : last_one ++ [] ≡ last_one = append-nil last_one in
      let ordered : order_wrong previous set (last_one ++ []) ≡ false = rw same order in
      let fine : proposal_code exchange previous set last_one ≡ 0 =
      subst (λ (l : List ℕ). proposal_code exchange previous set l ≡ 0) same
      (proposed_code exchange 0 high low number protocol spi t w [] previous set ordered) in
      last-proposal left exchange previous set last_one fine refl (rw last-size (ap length (drop-length last_one)))

  pub one-reads : proposals_code 16 exchange 0 none last_one ≡ 0
  one-reads = last-reads 15 0 none (order_first last_one)

-- two of one number, with different protocols
module _ (exchange high low number protocol : ℕ) (spi t : List ℕ) (w : Writes exchange 2 high low protocol spi t) (high2 low2 protocol2 : ℕ)
    (spi2 t2 : List ℕ) (w2 : Writes exchange 0 high2 low2 protocol2 spi2 t2) (other : protocol ≡ protocol2 → ⊥) where
  abbrev first_one : List ℕ
  first_one = proposed 2 high low number protocol spi t

  abbrev second-one : List ℕ
  second-one = proposed 0 high2 low2 number protocol2 spi2 t2

  pub two-read : proposals_code 16 exchange 0 none (first_one ++ second-one) ≡ 0
  two-read =
      let fine = proposed_code exchange 2 high low number protocol spi t w second-one 0 none (order_first (first_one ++ second-one)) in
      let rest : drop (number_at 2 (first_one ++ second-one) 2) (first_one ++ second-one) ≡ second-one =
      rw (proposed_size exchange 2 high low number protocol spi t w second-one) (drop-append_seam first_one second-one) in
      let before : Protocols = with (set_before 0 none number) protocol in
      let order = order_second number protocol protocol2 second-one refl refl other in
      let after : proposals_code 15 exchange number before second-one ≡ 0 =
      last-reads exchange high2 low2 number protocol2 spi2 t2 w2 14 number before order in
      more-proposals 15 exchange 0 none (first_one ++ second-one) fine (λ z. omega arith) (rw rest after)

-- ---- the body

pub offer-right : (exchange : ℕ) (s : List ℕ) → 8 ≤ length s → number_at 4 s 0 ≡ 1 → number_at 4 s 4 ≡ 1 →
    proposals_code 16 exchange 0 none (drop 8 s) ≡ 0 → offer_code exchange s ≡ 0
unfolding offer_code
offer-right exchange s long doi situation h = rw (le-ltb (length s) 8 long, doi, situation) h
