-- What begin offers is read back: one set per quick line of the book, in the book's order, each proposal with one transform and the own SPI.
use Prim.Native.Nat.{ℕ, zero, suc, ◌+◌, ◌-◌, ◌*◌, ◌/◌, ◌%◌, ◌≤◌, ◌<◌}
use mathlib.Core.Path.{◌≡◌, refl, sym, ap, ◌∙◌}
use mathlib.Core.Logic.{◌⊎◌, inl, inr, ⊎_elim}
use mathlib.Core.List.{List, [], ◌∷◌, ◌++◌, append_assoc, append-nil, flatten}
use mathlib.Core.Bool.{false, ◌&&◌}
use native.Mathlib.Omega.{arith}
use lib.ListN.{length, get_or, drop, length-append, get_or-append}
use lib.Seq.{take-length, drop-length, take-append_seam, drop-append_seam, get_or-append-add}
use lib.Dec.{ltb, leb, eqb}
use borrow.Author.Tests.{ltb-false, eq-eqb, ne_eqb, le-ltb, lt-leb}
use Rattle.wire_read.specs.Wire.{number_at}
use Rattle.wire_write.specs.Put.{bytes_of, head, headed}
use Rattle.wire_read.specs.Tests.{if◌then◌otherwise◌}
use Rattle.wire_read.proofs.Tests.{by_test}
use Rattle.wire_read.proofs.Laws.{number_append, number-append_add}
use Rattle.wire_write.proofs.Laws.{number-bytes_of, length_bytes_of, length_headed, headed-lies}
use Rattle.sa_attribute.specs.Attributes.{sent_fixed, attribute_type, attribute_size, after_attribute}
use Rattle.sa_coding.specs.Coding.{out_of_bounds, must_be_fixed, fixed_wrong, is_duration, duration_wrong, is_life_type, value_length, from_value, whole_value, alike, repeats, stands_wrong, attribute_code, last_code, attributes_from, attributes_code}
use Rattle.sa_proposals.specs.Proposals.{has, with, set_before, order_wrong, protocol_wrong, proposal_code, proposals_code}
use Rattle.sa_proposals.specs.Proposals as proposals
use Rattle.sa_proposals.proofs.Laws.{Item, Rising, end, on}
use Rattle.sa_transforms.proofs.Laws.{LawfulTransform}
use Rattle.sa_proposals.proofs.Written.{proposed, Keyed, keyed, Writes, alone-transforms, proposed_size, proposed_code, proposed_lawful, order_first, last-proposal, more-proposals}
use Rattle.sa_fields.specs.Fields.{protocol, spi, transform_count}
use Rattle.wire_read.specs.Parts.{skip, parts}
use Rattle.sa_items.specs.Items.{first_item, proposal, proposal_count, transform}
use Rattle.sa_sets.specs.Sets.{set_end, first_set, after_set, set, set_count}
use Rattle.sa_sets.proofs.Laws.{Same, same_end, same-on}
use Rattle.sa_items.proofs.Laws.{proposals-count, proposals-place}
use Rattle.policy_lines.specs.Lines.{quick_protocols, quick_mode, quick_seconds}
use Rattle.policy_suits.specs.Suits.{quick_id}
use Rattle.policy_reply.specs.Reply.{own_spi, fields, proposal_of}
use Rattle.quick_write.specs.Messages.{book_of, fixed, authentication, attributes, transform_one, line_proposal, line_set, next_set, line_sets, lines, offer_of}
use Rattle.quick_exchange.proofs.MessageShapes.{sa_body, Fit}
use Rattle.quick_end.specs.declared.Own.{Own}

-- ---- the transform of a line

-- "the suiting attributes with the line's seconds, sent fixed, in the order 4, 5 where there is one, 1, 2"
module _ (mode high low : ℕ) where
  four_lawful : attributes_code 32 (0x80 ∷ 4 ∷ 0 ∷ mode ∷ 0x80 ∷ 5 ∷ 0 ∷ 20 ∷ 0x80 ∷ 1 ∷ 0 ∷ 1 ∷ 0x80 ∷ 2 ∷ high ∷ low ∷ []) ≡ 0
  unfolding sent_fixed attribute_type attribute_size after_attribute out_of_bounds must_be_fixed fixed_wrong is_duration duration_wrong is_life_type
      value_length from_value whole_value alike repeats stands_wrong attribute_code last_code attributes_from attributes_code number_at
  four_lawful = refl

  three-lawful : attributes_code 32 (0x80 ∷ 4 ∷ 0 ∷ mode ∷ 0x80 ∷ 1 ∷ 0 ∷ 1 ∷ 0x80 ∷ 2 ∷ high ∷ low ∷ []) ≡ 0
  unfolding sent_fixed attribute_type attribute_size after_attribute out_of_bounds must_be_fixed fixed_wrong is_duration duration_wrong is_life_type
      value_length from_value whole_value alike repeats stands_wrong attribute_code last_code attributes_from attributes_code number_at
  three-lawful = refl

module _ (protocol i : ℕ) (book : List ℕ) where
  attributes-right : (attributes_code 32 (attributes protocol i book) ≡ 0) × (length (attributes protocol i book) ≤ 16)
  unfolding attributes authentication fixed bytes_of
  attributes-right =
      let seconds : ℕ = quick_seconds i book in
      by_test (eqb (quick_protocols i book) 2 && eqb protocol 3)
      (λ e. rw e (three-lawful (quick_mode i book) (seconds / 256 % 256) (seconds % 256), omega arith))
      (λ e. rw e (four_lawful (quick_mode i book) (seconds / 256 % 256) (seconds % 256), omega arith))

-- "transform 1": number, ID, reserved, attributes
module _ (id : ℕ) (list : List ℕ) where
  abbrev the_transform : List ℕ
  the_transform = headed 0 (1 ∷ id ∷ 0 ∷ 0 ∷ list)

  transform_length : length the_transform ≡ 8 + length list
  transform_length = length_headed 0 (1 ∷ id ∷ 0 ∷ 0 ∷ list) ∙ omega arith

  lies : length list ≤ 16 → number_at 2 the_transform 2 ≡ length the_transform
  lies short = headed-lies 0 (1 ∷ id ∷ 0 ∷ 0 ∷ list) (omega arith) ∙ sym (length_headed 0 (1 ∷ id ∷ 0 ∷ 0 ∷ list))

  reserved : (get_or the_transform 1 0 ≡ 0) × (number_at 2 the_transform 6 ≡ 0) × (get_or the_transform 0 0 ≡ 0)
  unfolding headed head bytes_of number_at
  reserved = (refl, refl, refl)

  behind : drop 8 the_transform ≡ list
  unfolding headed head bytes_of
  behind = refl

  lawful-transform : attributes_code 32 list ≡ 0 → length list ≤ 16 → LawfulTransform 32 the_transform
  lawful-transform lawful short = record {
    long = omega (arith, transform_length);
    lies = lies short;
    reserved = reserved.0;
    also_reserved = reserved.1;
    attributes = rw behind lawful;
  }

-- ---- a proposal of one transform

-- p is such a proposal, with exchange 32 and at most 36 bytes
data Single (next number protocol : ℕ) (spi : List ℕ) : List ℕ → Type 0 where
  single : {high low : ℕ} {t : List ℕ} → Writes 32 next high low protocol spi t → length (spi ++ t) ≤ 28 →
      Single next number protocol spi (proposed next high low number protocol spi t)

-- the proposal that is written anew around transform 1
module _ (next number protocol id : ℕ) (spi list : List ℕ) where
  abbrev size : ℕ
  size = 8 + length (spi ++ the_transform id list)

  is_proposed : proposal_of next number protocol spi (the_transform id list)
      ≡ proposed next (size / 256 % 256) (size % 256) number protocol spi (the_transform id list)
  unfolding proposal_of fields head headed bytes_of
  is_proposed = refl

  written-single : (next ≡ 0) ⊎ (next ≡ 2) → protocol_wrong 32 protocol ≡ false → Keyed 32 spi → length spi ≡ 4 → attributes_code 32 list ≡ 0 → length list ≤ 16 →
      Single next number protocol spi (proposal_of next number protocol spi (the_transform id list))
  written-single follows known key four lawful short =
      let few : length (spi ++ the_transform id list) ≤ 28 = omega (arith, length-append spi (the_transform id list), transform_length id list) in
      let w : Writes 32 next (size / 256 % 256) (size % 256) protocol spi (the_transform id list) =
      record {
        lies = omega arith;
        followed = ⊎_elim (λ e. inl e) (λ e. inr (e, refl)) follows;
        known = known;
        key = key;
        lawful = lawful-transform id list lawful short;
        last = (reserved id list).2;
      } in
      rw is_proposed (single w few)

proposed_item : (next high low number protocol : ℕ) (spi t : List ℕ) → Writes 32 next high low protocol spi t →
    Item 32 (proposed next high low number protocol spi t)
proposed_item next high low number protocol spi t w =
    let p : List ℕ = proposed next high low number protocol spi t in
    proposed_lawful 32 next high low number protocol spi t w [] 0 proposals.none (order_first (p ++ []))

-- a proposal of the offer: "one transform each", no other announced behind it, and the own SPI
pub record Offers (ah esp : ℕ) (p : List ℕ) : Type 0 where
  pub one-transform : transform_count p ≡ 1
  pub last : get_or (transform 0 p) 0 0 ≡ 0
  pub own-spi : spi p ≡ own_spi ah esp (protocol p)

-- a set of the offer: ESP alone, or "AH before ESP"
pub data OfferedSet (ah esp : ℕ) (s : List ℕ) : Type 0 where
  esp-alone : proposal_count s ≡ 1 → protocol (proposal 0 s) ≡ 3 → Offers ah esp (proposal 0 s) → OfferedSet ah esp s
  ah-and-esp : proposal_count s ≡ 2 → protocol (proposal 0 s) ≡ 2 → protocol (proposal 1 s) ≡ 3 → Offers ah esp (proposal 0 s) →
      Offers ah esp (proposal 1 s) → OfferedSet ah esp s

module _ {ah esp : ℕ} {s : List ℕ} where
  pub offers_each : OfferedSet ah esp s → (j : ℕ) → j < proposal_count s → Offers ah esp (proposal j s)
  offers_each (esp-alone one is o) zero h = o
  offers_each (esp-alone one is o) (suc j) h = absurd (omega arith)
  offers_each (ah-and-esp two is other o p) zero h = o
  offers_each (ah-and-esp two is other o p) (suc zero) h = p
  offers_each (ah-and-esp two is other o p) (suc (suc j)) h = absurd (omega arith)

  pub one_or_two : OfferedSet ah esp s → (proposal_count s ≡ 1) ⊎ (proposal_count s ≡ 2)
  one_or_two (esp-alone one is o) = inl one
  one_or_two (ah-and-esp two is other o p) = inr two

-- what a proposal of one transform has
module _ {next number wanted : ℕ} {key : List ℕ} where
  single-item : {p : List ℕ} → Single next number wanted key p → Item 32 p
  single-item (single {high} {low} {t} w few) = proposed_item next high low number wanted key t w

  single-number : {p : List ℕ} → Single next number wanted key p → get_or p 4 0 ≡ number
  single-number (single w few) = refl

  single-short : {p : List ℕ} → Single next number wanted key p → length p ≤ 36
  single-short (single w few) = omega arith

  single-protocol : {p : List ℕ} → Single next number wanted key p → protocol p ≡ wanted
  unfolding protocol
  single-protocol (single w few) = refl

  single_offers : (ah esp : ℕ) → key ≡ own_spi ah esp wanted → {p : List ℕ} → Single next number wanted key p → Offers ah esp p
  unfolding transform_count transform skip first_item protocol spi
  single_offers ah esp own (single {high} {low} {t} w few) = record {
    one-transform = refl;
    last = rw (alone-transforms 32 next high low number wanted key t w, w.lawful.lies, take-length t) w.last;
    own-spi = take-append_seam key t ∙ own;
  }

-- ---- proposals one after the other

-- a proposal's checks, whatever follows it
module _ (next high low number protocol : ℕ) (spi t : List ℕ) (w : Writes 32 next high low protocol spi t) (rest : List ℕ) where
  code : (previous : ℕ) (set : _) → previous ≤ number → has (set_before previous set number) protocol ≡ false →
      proposal_code 32 previous set (proposed next high low number protocol spi t ++ rest) ≡ 0
  unfolding order_wrong
  code previous set low-enough new =
      let ordered : order_wrong previous set (proposed next high low number protocol spi t ++ rest) ≡ false = rw (le-ltb number previous low-enough) new in
      proposed_code 32 next high low number protocol spi t w rest previous set ordered

module _ {number protocol : ℕ} {spi : List ℕ} (left previous : ℕ) (set : _) (low-enough : previous ≤ number)
    (new : has (set_before previous set number) protocol ≡ false) where
  last-reads : {p : List ℕ} → Single 0 number protocol spi p → proposals_code (suc left) 32 previous set p ≡ 0
  last-reads (single {high} {low} {t} w few) =
      let p : List ℕ = proposed 0 high low number protocol spi t in
      let fine : proposal_code 32 previous set (p ++ []) ≡ 0 = code 0 high low number protocol spi t w [] previous set low-enough new in
      let none : length (drop (number_at 2 p 2) p) ≡ 0 = rw (proposed_item 0 high low number protocol spi t w).lies (ap length (drop-length p)) in
      last-proposal left 32 previous set p (rw (append-nil p) at fine) refl none

  more-read : {p : List ℕ} → Single 2 number protocol spi p → (rest : List ℕ) →
      proposals_code left 32 number (with (set_before previous set number) protocol) rest ≡ 0 →
      proposals_code (suc left) 32 previous set (p ++ rest) ≡ 0
  more-read (single {high} {low} {t} w few) rest reads =
      let p : List ℕ = proposed 2 high low number protocol spi t in
      let behind-it : drop (number_at 2 (p ++ rest) 2) (p ++ rest) ≡ rest =
      rw (proposed_size 32 2 high low number protocol spi t w rest) (drop-append_seam p rest) in
      more-proposals left 32 previous set (p ++ rest) (code 2 high low number protocol spi t w rest previous set low-enough new) (λ z. omega arith)
      (rw behind-it reads)

-- ---- where a set ends

-- no proposal of number n begins here
abbrev Ends : ℕ → List ℕ → Type 0
Ends n s = (length s < 8) ⊎ (get_or s 4 0 ≡ n → ⊥)

-- set_end goes by places: it ends behind the proposals of this number
set-end : (n : ℕ) (a rest : List ℕ) → Ends n rest → {least : ℕ} {ps : List (List ℕ)} → Rising 32 least ps → Same n ps → (left : ℕ) → length ps ≤ left →
    set_end left n (a ++ (flatten ps ++ rest)) (length a) ≡ length a + length (flatten ps)
unfolding set_end flatten
set-end n a rest stop end same_end zero h = omega arith
set-end n a rest stop end same_end (suc left) h =
    let size : length (a ++ rest) ≡ length a + length rest = length-append a rest in
    let number : get_or (a ++ rest) (length a + 4) 0 ≡ get_or rest 4 0 = get_or-append-add a rest 4 0 in
    by_test (ltb (length (a ++ rest)) (length a + 8)) (λ e. rw e (omega arith))
    (λ e. let long : length a + 8 ≤ length (a ++ rest) = ltb-false (length (a ++ rest)) (length a + 8) e in
    let other : eqb (get_or rest 4 0) n ≡ false = ne_eqb (get_or rest 4 0) n (⊎_elim (λ l. absurd (omega arith)) (λ d. d) stop) in
    rw (e, number, other) (omega arith))
set-end n a rest stop (on {p = p} {ps = ps} i o r) (same-on e m) zero h = absurd (omega arith)
set-end n a rest stop (on {p = p} {ps = ps} i o r) (same-on e m) (suc left) h =
    let behind : List ℕ = flatten ps ++ rest in
    let room : length a + 8 ≤ length (a ++ (p ++ behind)) = omega (arith, length-append a (p ++ behind), length-append p behind) in
    let long : ltb (length (a ++ (p ++ behind))) (length a + 8) ≡ false = le-ltb _ _ room in
    let number : get_or (a ++ (p ++ behind)) (length a + 4) 0 ≡ n = get_or-append-add a (p ++ behind) 4 0 ∙ get_or-append p behind 0 4 (omega arith) ∙ e in
    let size : number_at 2 (a ++ (p ++ behind)) (length a + 2) ≡ length p =
    number-append_add 2 a (p ++ behind) 2 ∙ number_append 2 p behind 2 (omega arith) ∙ i.lies in
    rw (append_assoc p (flatten ps) rest, long, number, eq-eqb n n refl, size, ← append_assoc a p behind, ← length-append a p)
    (set-end n (a ++ p) rest stop r m left (omega arith) ∙ omega (arith, length-append a p, length-append p (flatten ps)))

-- a set of one or more proposals, in front of what is no more of it
module _ (n : ℕ) {least : ℕ} {ps : List (List ℕ)} (rising : Rising 32 least ps) (same : Same n ps) (some : 1 ≤ length ps) (few : length ps ≤ 16) (rest : List ℕ)
    (stop : Ends n rest) where
  begins : {least : ℕ} {ps : List (List ℕ)} → Rising 32 least ps → Same n ps → 1 ≤ length ps → (get_or (flatten ps ++ rest) 4 0 ≡ n) × (8 ≤ length (flatten ps))
  unfolding flatten
  begins end m h = absurd (omega arith)
  begins (on {p = p} {ps = ps} i o r) (same-on e m) h =
      let long : 8 ≤ length (p ++ flatten ps) = omega (arith, length-append p (flatten ps), i.long) in
      (get_or-append (p ++ flatten ps) rest 0 4 (omega arith) ∙ get_or-append p (flatten ps) 0 4 (omega (arith, i.long)) ∙ e, long)

  ends : set_end 16 (get_or (flatten ps ++ rest) 4 0) (flatten ps ++ rest) 0 ≡ length (flatten ps)
  ends = rw (begins rising same some).0 (set-end n [] rest stop rising same 16 few ∙ omega arith)

  first-set : first_set (flatten ps ++ rest) ≡ flatten ps
  unfolding first_set
  first-set = rw ends (take-append_seam (flatten ps) rest)

  after-set : after_set (flatten ps ++ rest) ≡ rest
  unfolding after_set
  after-set = rw ends (drop-append_seam (flatten ps) rest)

-- ---- the sets of the book's quick lines

next-set : (n : ℕ) → (next_set n ≡ 0) ⊎ (next_set n ≡ 2)
unfolding next_set
next-set n = by_test (leb n 1) (λ e. rw e (inl refl)) (λ e. rw e (inr refl))

-- the own SPIs, as `fresh` lets them pass
module _ (ah esp : ℕ) (book : List ℕ) (right-ah : (256 ≤ ah) × (ah < 4294967296)) (right-esp : (256 ≤ esp) × (esp < 4294967296)) where
  spi_keyed : (spi : ℕ) → (256 ≤ spi) × (spi < 4294967296) → Keyed 32 (bytes_of 4 spi)
  spi_keyed spi right = keyed {spi = bytes_of 4 spi} (length_bytes_of 4 spi) (omega (arith, number-bytes_of 4 spi (omega arith)))

  module _ (next : ℕ) (follows : (next ≡ 0) ⊎ (next ≡ 2)) (i : ℕ) where
    ah-single : Single next (i + 1) 2 (bytes_of 4 ah) (line_proposal ah esp next 2 i book)
    unfolding line_proposal transform_one own_spi protocol_wrong
    ah-single =
        let right = attributes-right 2 i book in
        written-single next (i + 1) 2 (quick_id 2) (bytes_of 4 ah) (attributes 2 i book) follows refl (spi_keyed ah right-ah) (length_bytes_of 4 ah) right.0
        right.1

    esp-single : Single next (i + 1) 3 (bytes_of 4 esp) (line_proposal ah esp next 3 i book)
    unfolding line_proposal transform_one own_spi protocol_wrong
    esp-single =
        let right = attributes-right 3 i book in
        written-single next (i + 1) 3 (quick_id 3) (bytes_of 4 esp) (attributes 3 i book) follows refl (spi_keyed esp right-esp) (length_bytes_of 4 esp) right.0
        right.1

  -- the proposals of line i, "AH before ESP"
  line_items : ℕ → ℕ → List (List ℕ)
  line_items next i =
      if eqb (quick_protocols i book) 1 then line_proposal ah esp next 3 i book ∷ []
      otherwise line_proposal ah esp 2 2 i book ∷ line_proposal ah esp next 3 i book ∷ []

  module _ (next i : ℕ) where
    line-whole : flatten (line_items next i) ≡ line_set ah esp next i book
    unfolding line_items line_set flatten
    line-whole =
        by_test (eqb (quick_protocols i book) 1) (λ e. rw e (append-nil _)) (λ e. rw e (ap (λ (l : List ℕ). line_proposal ah esp 2 2 i book ++ l) (append-nil _)))

    line-few : (1 ≤ length (line_items next i)) × (length (line_items next i) ≤ 2)
    unfolding line_items
    line-few = by_test (eqb (quick_protocols i book) 1) (λ e. rw e (omega arith, omega arith)) (λ e. rw e (omega arith, omega arith))

  module _ (next : ℕ) (follows : (next ≡ 0) ⊎ (next ≡ 2)) (i : ℕ) where
    esp-rising : Rising 32 (i + 1) (line_proposal ah esp next 3 i book ∷ [])
    esp-rising =
        let s = esp-single next follows i in
        let same : i + 1 ≤ get_or (line_proposal ah esp next 3 i book) 4 0 = omega (arith, single-number s) in
        on (single-item s) same end

    both-rising : Rising 32 (i + 1) (line_proposal ah esp 2 2 i book ∷ line_proposal ah esp next 3 i book ∷ [])
    both-rising =
        let s = ah-single 2 (inr refl) i in
        let same : i + 1 ≤ get_or (line_proposal ah esp 2 2 i book) 4 0 = omega (arith, single-number s) in
        let behind-it : Rising 32 (get_or (line_proposal ah esp 2 2 i book) 4 0) (line_proposal ah esp next 3 i book ∷ []) = rw (single-number s) esp-rising in
        on (single-item s) same behind-it

    line-rising : Rising 32 (i + 1) (line_items next i)
    unfolding line_items
    line-rising = by_test (eqb (quick_protocols i book) 1) (λ e. rw e esp-rising) (λ e. rw e both-rising)

    line_same : Same (i + 1) (line_items next i)
    unfolding line_items
    line_same =
        let esp-same : Same (i + 1) (line_proposal ah esp next 3 i book ∷ []) = same-on (single-number (esp-single next follows i)) same_end in
        by_test (eqb (quick_protocols i book) 1) (λ e. rw e esp-same) (λ e. rw e (same-on (single-number (ah-single 2 (inr refl) i)) esp-same))

    line_offers : OfferedSet ah esp (line_set ah esp next i book)
    unfolding line_items own_spi
    line_offers =
        let first = ah-single 2 (inr refl) i in
        let last = esp-single next follows i in
        let whole = line-whole next i in
        by_test (eqb (quick_protocols i book) 1)
        (λ e.
        let place = proposals-place esp-rising 0 (omega arith) in
        rw (← (rw e at whole))
        (esp-alone (proposals-count esp-rising (omega arith)) (rw place (single-protocol last)) (rw place (single_offers ah esp refl last))))
        (λ e.
        let place = proposals-place both-rising 0 (omega arith) in
        let place-two = proposals-place both-rising 1 (omega arith) in
        rw (← (rw e at whole))
        (ah-and-esp (proposals-count both-rising (omega arith)) (rw place (single-protocol first)) (rw place-two (single-protocol last))
        (rw place (single_offers ah esp refl first)) (rw place-two (single_offers ah esp refl last))))

    line-short : length (line_set ah esp next i book) ≤ 72
    unfolding line_set
    line-short =
        let last = single-short (esp-single next follows i) in
        let first = single-short (ah-single 2 (inr refl) i) in
        by_test (eqb (quick_protocols i book) 1) (λ e. rw e (omega arith))
        (λ e. rw e (omega (arith, length-append (line_proposal ah esp 2 2 i book) (line_proposal ah esp next 3 i book))))

    -- it is taken off the front, where another number follows or nothing
    module _ (rest : List ℕ) (stop : Ends (i + 1) rest) where
      line-begins : (get_or (line_set ah esp next i book ++ rest) 4 0 ≡ i + 1) × (8 ≤ length (line_set ah esp next i book))
      line-begins =
          rw (← line-whole next i)
          (begins (i + 1) line-rising line_same (line-few next i).0 (omega (arith, (line-few next i).1)) rest stop line-rising line_same (line-few next i).0)

      line_first : first_set (line_set ah esp next i book ++ rest) ≡ line_set ah esp next i book
      line_first = rw (← line-whole next i) (first-set (i + 1) line-rising line_same (line-few next i).0 (omega (arith, (line-few next i).1)) rest stop)

      line_after : after_set (line_set ah esp next i book ++ rest) ≡ rest
      line_after = rw (← line-whole next i) (after-set (i + 1) line-rising line_same (line-few next i).0 (omega (arith, (line-few next i).1)) rest stop)

  -- the numbers go up by one from line to line
  lines-stop : (n i : ℕ) → Ends (i + 1) (line_sets n (i + 1) ah esp book)
  unfolding line_sets
  lines-stop zero i = inl (omega arith)
  lines-stop (suc n) i =
      let number = (line-begins (next_set (suc n)) (next-set (suc n)) (i + 1) (line_sets n (i + 1 + 1) ah esp book) (lines-stop n (i + 1))).0 in
      inr (λ e. omega arith)

  lines-short : (n i : ℕ) → length (line_sets n i ah esp book) ≤ 72 * n
  unfolding line_sets
  lines-short zero i = omega arith
  lines-short (suc n) i =
      let first : List ℕ = line_set ah esp (next_set (suc n)) i book in
      omega (arith, length-append first (line_sets n (i + 1) ah esp book), line-short (next_set (suc n)) (next-set (suc n)) i, lines-short n (i + 1))

  module _ (n i : ℕ) where
    abbrev all-sets : List ℕ
    all-sets = line_sets (suc n) i ah esp book

    lines-first : first_set all-sets ≡ line_set ah esp (next_set (suc n)) i book
    unfolding line_sets
    lines-first = line_first (next_set (suc n)) (next-set (suc n)) i (line_sets n (i + 1) ah esp book) (lines-stop n i)

    lines_after : after_set all-sets ≡ line_sets n (i + 1) ah esp book
    unfolding line_sets
    lines_after = line_after (next_set (suc n)) (next-set (suc n)) i (line_sets n (i + 1) ah esp book) (lines-stop n i)

    lines_long : 0 < length all-sets
    unfolding line_sets
    lines_long =
        let first : List ℕ = line_set ah esp (next_set (suc n)) i book in
        let long = (line-begins (next_set (suc n)) (next-set (suc n)) i (line_sets n (i + 1) ah esp book) (lines-stop n i)).1 in
        omega (arith, length-append first (line_sets n (i + 1) ah esp book))

  lines-count : (n i left : ℕ) → n ≤ left → parts after_set left (line_sets n i ah esp book) ≡ n
  unfolding parts
  lines-count zero i zero h = refl
  lines-count zero i (suc left) h = unfold line_sets in refl
  lines-count (suc n) i zero h = absurd (omega arith)
  lines-count (suc n) i (suc left) h =
      rw (ne_eqb (length (line_sets (suc n) i ah esp book)) 0 (λ z. omega (arith, lines_long n i)), lines_after n i, lines-count n (i + 1) left (omega arith))
      (omega arith)

  lines-place : (n i k : ℕ) → k < n → first_set (skip after_set k (line_sets n i ah esp book)) ≡ line_set ah esp (next_set (n - k)) (i + k) book
  unfolding skip
  lines-place zero i k h = absurd (omega arith)
  lines-place (suc n) i zero h =
      let here : i + 0 ≡ i = omega arith in
      let next : suc n - 0 ≡ suc n = omega arith in
      rw (here, next) (lines-first n i)
  lines-place (suc n) i (suc k) h =
      let here : i + 1 + k ≡ i + suc k = omega arith in
      let next : suc n - suc k ≡ n - k = omega arith in
      rw (lines_after n i, ← here, next) (lines-place n (i + 1) k (omega arith))

  -- a new number begins a set of its own
  again : (number : ℕ) (set : _) → set_before number set number ≡ set
  unfolding set_before
  again number set = rw (eq-eqb number number refl)

  module _ (previous : ℕ) (set : _) (i : ℕ) (above : previous ≤ i) where
    anew : set_before previous set (i + 1) ≡ proposals.none
    unfolding set_before
    anew = rw (ne_eqb (i + 1) previous (λ e. omega arith))

    new_first : (protocol : ℕ) → has (set_before previous set (i + 1)) protocol ≡ false
    unfolding has proposals.none
    new_first protocol = rw anew

    new_second : has (set_before (i + 1) (with (set_before previous set (i + 1)) 2) (i + 1)) 3 ≡ false
    unfolding has with proposals.none
    new_second = rw (anew, again (i + 1) (with proposals.none 2))

    last_line : (left : ℕ) → proposals_code (suc (suc left)) 32 previous set (line_set ah esp 0 i book) ≡ 0
    unfolding line_set
    last_line left =
        let last = esp-single 0 (inl refl) i in
        let low : previous ≤ i + 1 = omega arith in
        let same : i + 1 ≤ i + 1 = omega arith in
        let second = last-reads left (i + 1) (with (set_before previous set (i + 1)) 2) same new_second last in
        by_test (eqb (quick_protocols i book) 1) (λ e. rw e (last-reads (suc left) previous set low (new_first 3) last))
        (λ e. rw e (more-read (suc left) previous set low (new_first 2) (ah-single 2 (inr refl) i) (line_proposal ah esp 0 3 i book) second))

    more-line : (left : ℕ) (rest : List ℕ) → ((more : ℕ) (before : _) → left ≤ more → proposals_code more 32 (i + 1) before rest ≡ 0) →
        proposals_code (suc (suc left)) 32 previous set (line_set ah esp 2 i book ++ rest) ≡ 0
    unfolding line_set
    more-line left rest reads =
        let last = esp-single 2 (inr refl) i in
        let low : previous ≤ i + 1 = omega arith in
        let same : i + 1 ≤ i + 1 = omega arith in
        let second = more-read left (i + 1) (with (set_before previous set (i + 1)) 2) same new_second last rest (reads left _ (omega arith)) in
        let joined = append_assoc (line_proposal ah esp 2 2 i book) (line_proposal ah esp 2 3 i book) rest in
        by_test (eqb (quick_protocols i book) 1) (λ e. rw e (more-read (suc left) previous set low (new_first 3) last rest (reads (suc left) _ (omega arith))))
        (λ e. rw (e, joined) (more-read (suc left) previous set low (new_first 2) (ah-single 2 (inr refl) i) (line_proposal ah esp 2 3 i book ++ rest) second))

  -- so many lines, of at most two proposals each
  lines-read : (n i left previous : ℕ) (before : _) → previous ≤ i → 2 * suc n ≤ left →
      proposals_code left 32 previous before (line_sets (suc n) i ah esp book) ≡ 0
  unfolding line_sets next_set
  lines-read zero i left previous before above h =
      let two : left ≡ suc (suc (left - 2)) = omega arith in
      rw (two, append-nil (line_set ah esp 0 i book)) (last_line previous before i above (left - 2))
  lines-read (suc n) i left previous before above h =
      let two : left ≡ suc (suc (left - 2)) = omega arith in
      let behind-it =
      more-line previous before i above (left - 2) (line_sets (suc n) (i + 1) ah esp book)
      (λ more after l. lines-read n (i + 1) more (i + 1) after (omega arith) (omega arith)) in
      rw (two, lt-leb (suc (suc n)) 1 (omega arith)) behind-it

-- ---- the offer

pub body-sets : (proposals : List ℕ) → drop 8 (sa_body proposals) ≡ proposals
unfolding bytes_of
body-sets proposals = refl

few-lines : (book : List ℕ) → lines book ≤ 8
unfolding lines
few-lines book = omega arith

-- one line or more, all of them within a reading's 16 proposals
pub offer-reads : (own : Own) → Fit own → 0 < lines (book_of own) → proposals_code 16 32 0 proposals.none (offer_of own) ≡ 0
unfolding offer_of
offer-reads own fit some = go (lines (book_of own)) some (few-lines (book_of own))
  where
    go : (n : ℕ) → 0 < n → n ≤ 8 → proposals_code 16 32 0 proposals.none (line_sets n 0 own.ah own.esp (book_of own)) ≡ 0
    go zero h few = absurd (omega arith)
    go (suc n) h few = lines-read own.ah own.esp (book_of own) fit.ah fit.esp n 0 16 0 proposals.none (omega arith) (omega arith)

pub offer-short : (own : Own) → Fit own → length (offer_of own) ≤ 576
unfolding offer_of
offer-short own fit = omega (arith, lines-short own.ah own.esp (book_of own) fit.ah fit.esp (lines (book_of own)) 0, few-lines (book_of own))

pub offer-count : (own : Own) → Fit own → 0 < lines (book_of own) → set_count (sa_body (offer_of own)) ≡ lines (book_of own)
unfolding offer_of set_count
offer-count own fit some =
    rw (body-sets (line_sets (lines (book_of own)) 0 own.ah own.esp (book_of own)))
    (lines-count own.ah own.esp (book_of own) fit.ah fit.esp (lines (book_of own)) 0 16 (omega (arith, few-lines (book_of own))))

pub offer-set : (own : Own) → Fit own → (k : ℕ) → k < lines (book_of own) →
    set k (sa_body (offer_of own)) ≡ line_set own.ah own.esp (next_set (lines (book_of own) - k)) k (book_of own)
unfolding offer_of set
offer-set own fit k h =
    let here : 0 + k ≡ k = omega arith in
    let placed = lines-place own.ah own.esp (book_of own) fit.ah fit.esp (lines (book_of own)) 0 k h in
    rw (body-sets (line_sets (lines (book_of own)) 0 own.ah own.esp (book_of own))) (rw here at placed)

pub offer-line : (own : Own) → Fit own → (k : ℕ) → k < lines (book_of own) → OfferedSet own.ah own.esp (set k (sa_body (offer_of own)))
offer-line own fit k h =
    let next : ℕ = next_set (lines (book_of own) - k) in
    rw (offer-set own fit k h) (line_offers own.ah own.esp (book_of own) fit.ah fit.esp next (next-set (lines (book_of own) - k)) k)
