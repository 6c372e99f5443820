-- Why the reply reads: the chosen set and transforms are found again by their numbers, a transform that suits is short, and what is repeated
-- of a lawful proposal is lawful. What the reply's SA payload holds is the record Repeats.
use Prim.Native.Nat.{ℕ, zero, suc, ◌+◌, ◌-◌, ◌/◌, ◌%◌, ◌≤◌, ◌<◌}
use mathlib.Core.Path.{◌≡◌, refl, sym, ap, ◌∙◌}
use mathlib.Core.Logic.{◌⊎◌, inl, inr, ⊎_elim}
use mathlib.Core.List.{List, [], ◌∷◌, ◌++◌, append-nil, flatten}
use mathlib.Core.Bool.{false}
use native.Mathlib.Omega.{arith}
use lib.ListN.{length, get_or, drop, length-append, length-drop}
use lib.Seq.{take-length, take-append_seam, drop-cons, drop-drop, get_or-drop}
use lib.Dec.{ltb, eqb}
use borrow.Author.Tests.{eq-eqb, ne_eqb, ltb-false, le-ltb}
use Rattle.wire_read.specs.Wire.{number_at}
use Rattle.wire_write.specs.Put.{bytes_of, head, headed, paste}
use Rattle.wire_read.proofs.Tests.{neither}
use Rattle.wire_read.proofs.Laws.{number_agree}
use Rattle.wire_write.proofs.Laws.{number-bytes_of, length_bytes_of, length_headed, headed-lies}
use Rattle.sa_proposals.specs.Proposals.{protocol_wrong, transform_bytes, proposals_code, offer_code}
use Rattle.sa_proposals.specs.Proposals as proposals
use Rattle.sa_proposals.proofs.Laws.{Item, Rising, end, on}
use Rattle.sa_transforms.proofs.Laws.{LawfulTransform}
use Rattle.sa_proposals.proofs.Written.{proposed, Keyed, unkeyed, keyed, Writes, alone-transforms, order_first, proposed_lawful, one-reads, two-read, offer-right}
use Rattle.sa_fields.specs.Fields.{proposal_number, protocol, spi, transform_count}
use Rattle.wire_read.specs.Parts.{skip}
use Rattle.sa_items.specs.Items.{first_item, proposal, proposal_count, transform}
use Rattle.sa_sets.specs.Sets.{set, set_count, set_numbered}
use Rattle.sa_fields.specs.declared.ProposalNumber.{ProposalNumber}
use Rattle.sa_fields.specs.declared.TransformNumber.{TransformNumber}
use Rattle.sa_sets.proofs.Laws.{Same, same_end, same-on}
use Rattle.sa_items.proofs.Laws.{transform-lawful}
use Rattle.sa_sets.proofs.Places.{LawfulSet, OneSet, one_set}
use Rattle.policy_reply.specs.Reply.{own_spi, fields, proposal_of, proposal_reply, set_reply, sa_of, spi_low, spis_low, set_replied, choice_replied, replied}
use Rattle.policy_reply.specs.Reply.{Written}
use Rattle.policy_lines.specs.declared.LineNumber.{LineNumber}
use Rattle.policy_choice.specs.Choice.{Chosen}
use Rattle.policy_choice.specs.declared.Transforms.{Transforms}
use Rattle.policy_choice.specs.declared.Transforms.TheVariants.{One, Two}
use Rattle.policy_choice.specs.Choice.{number_of, transforms_of, sa_from, choice}
use Rattle.policy_suiting.proofs.Laws.{Passes, Passed}
use Rattle.policy_suits.specs.Suits.{lowest}
use Rattle.sa_proposals.proofs.Known.{Known, isakmp, ah-of, esp-of, known_of}
use Rattle.policy_suiting.proofs.SuitLaws.{known-quick, suiting_short, chosen_in, taken, Pair, shape}
use Rattle.policy_choice.proofs.ChoiceLaws.{Chose, taken-by-number}

-- ---- a transform, repeated

same_byte : (t : List ℕ) (j : ℕ) → 1 ≤ j → get_or (0 ∷ drop 1 t) j 0 ≡ get_or t j 0
same_byte t zero h = absurd (omega arith)
same_byte t (suc k) h = get_or-drop 1 t k 0 ∙ ap (λ (x : ℕ). get_or t x 0) (omega arith)

-- "next fields and lengths set anew": of a short transform only the next field changes
module _ (exchange : ℕ) (t : List ℕ) (l : LawfulTransform exchange t) (short : length t ≤ 56) where
  size-high : get_or t 2 0 ≡ 0
  unfolding number_at
  size-high = omega (arith, l.lies)

  size_low : get_or t 3 0 ≡ length t
  unfolding number_at
  size_low = omega (arith, l.lies)

  three-bytes : drop 1 t ≡ 0 ∷ 0 ∷ length t ∷ drop 4 t
  three-bytes =
      let a = drop-cons t 1 0 (omega (arith, l.long)) in
      let b = drop-cons t 2 0 (omega (arith, l.long)) in
      let c = drop-cons t 3 0 (omega (arith, l.long)) in
      rw (a, b, c, l.reserved, size-high, size_low)

  repeated : headed 0 (drop 4 t) ≡ 0 ∷ drop 1 t
  unfolding headed head bytes_of
  repeated =
      let size : 4 + length (drop 4 t) ≡ length t = omega (arith, length-drop 4 t, l.long) in
      let high : length t / 256 % 256 ≡ 0 = omega arith in
      let low : length t % 256 ≡ length t = omega arith in
      rw (three-bytes, size, high, low)

  repeated_length : length (0 ∷ drop 1 t) ≡ length t
  repeated_length = omega (arith, length-drop 1 t, l.long)

  repeated-lawful : LawfulTransform exchange (0 ∷ drop 1 t)
  repeated-lawful =
      let number : (i : ℕ) → 1 ≤ i → number_at 2 (0 ∷ drop 1 t) i ≡ number_at 2 t i =
      λ i h. number_agree 2 (0 ∷ drop 1 t) t i i (λ k b. same_byte t (i + k) (omega arith)) in
      record {
        long = omega (arith, repeated_length, l.long);
        lies = number 2 (omega arith) ∙ l.lies ∙ sym repeated_length;
        reserved = same_byte t 1 (omega arith) ∙ l.reserved;
        also_reserved = number 6 (omega arith) ∙ l.also_reserved;
        attributes = rw (drop-drop 7 1 t) l.attributes;
      }

-- ---- a proposal of the reply

-- an offered proposal p that reads, the transform t chosen in it, and the own SPI that it uses
pub record Offered (exchange ah esp : ℕ) (p t : List ℕ) : Type 0 where
  pub known : protocol_wrong exchange (protocol p) ≡ false
  pub lawful : LawfulTransform exchange t
  pub short : length t ≤ 56
  pub high : spi_low ah esp (protocol p) ≡ false

-- a proposal q of the reply, beside them: "repeats numbers and transform bytes as offered, one transform each, next fields .. set anew, own SPIs"
pub record Answers (ah esp : ℕ) (p t q : List ℕ) : Type 0 where
  pub same_number : proposal_number q ≡ proposal_number p
  pub same-protocol : protocol q ≡ protocol p
  pub one-transform : transform_count q ≡ 1
  pub same-transform : transform 0 q ≡ 0 ∷ drop 1 t
  pub own-spi : spi q ≡ own_spi ah esp (protocol p)

spi_keyed : {exchange wanted : ℕ} → Known exchange wanted → (ah esp : ℕ) → ah < 4294967296 → esp < 4294967296 → spi_low ah esp wanted ≡ false →
    Keyed exchange (own_spi ah esp wanted)
unfolding own_spi spi_low
spi_keyed isakmp ah esp a e h = unkeyed
spi_keyed ah-of ah esp a e h =
    let high : 256 ≤ ah = ltb-false ah 256 (neither (ltb ah 256) false h).0 in
    keyed {spi = bytes_of 4 ah} (length_bytes_of 4 ah) (omega (arith, number-bytes_of 4 ah (omega arith)))
spi_keyed esp-of ah esp a e h =
    let high : 256 ≤ esp = ltb-false esp 256 h in
    keyed {spi = bytes_of 4 esp} (length_bytes_of 4 esp) (omega (arith, number-bytes_of 4 esp (omega arith)))

key_few : {exchange : ℕ} {k : List ℕ} → Keyed exchange k → length k ≤ 4
key_few unkeyed = omega arith
key_few (keyed four high) = omega arith

module _ (exchange ah esp : ℕ) (small-ah : ah < 4294967296) (small-esp : esp < 4294967296) (p t : List ℕ) (o : Offered exchange ah esp p t) where
  abbrev own : List ℕ
  own = own_spi ah esp (protocol p)

  abbrev size : ℕ
  size = 8 + length (own ++ (0 ∷ drop 1 t))

  abbrev as_proposed : ℕ → List ℕ
  as_proposed next = proposed next (size / 256 % 256) (size % 256) (proposal_number p).0 (protocol p) own (0 ∷ drop 1 t)

  is_proposed : (next : ℕ) → proposal_of next (proposal_number p).0 (protocol p) own t ≡ as_proposed next
  unfolding proposal_of fields head bytes_of
  is_proposed next = rw (repeated exchange t o.lawful o.short)

  key : Keyed exchange own
  key = spi_keyed (known_of exchange (protocol p) o.known) ah esp small-ah small-esp o.high

  proposed_length : length (as_proposed 0) ≤ 68
  proposed_length = omega (arith, length-append own (0 ∷ drop 1 t), repeated_length exchange t o.lawful o.short, o.short, key_few key)

  module _ (next : ℕ) (follows : (next ≡ 0) ⊎ ((next ≡ 2) × (exchange ≡ 32))) where
    writes : Writes exchange next (size / 256 % 256) (size % 256) (protocol p) own (0 ∷ drop 1 t)
    writes =
        let few : size < 256 = omega (arith, proposed_length) in
        record {
          lies = omega arith;
          followed = follows;
          known = o.known;
          key = key;
          lawful = repeated-lawful exchange t o.lawful o.short;
          last = refl;
        }

    answers : Answers ah esp p t (as_proposed next)
    unfolding proposal_number protocol transform_count spi transform skip first_item
    answers =
        let own-transforms : transform_bytes (as_proposed next) ≡ 0 ∷ drop 1 t =
        alone-transforms exchange next (size / 256 % 256) (size % 256) (proposal_number p).0 (protocol p) own (0 ∷ drop 1 t) writes in
        let lies = (repeated-lawful exchange t o.lawful o.short).lies in
        record {
          same_number = refl;
          same-protocol = refl;
          one-transform = refl;
          same-transform = rw (own-transforms, lies) (take-length (0 ∷ drop 1 t));
          own-spi = take-append_seam own (0 ∷ drop 1 t);
        }

    item : Item exchange (as_proposed next)
    item =
        proposed_lawful exchange next (size / 256 % 256) (size % 256) (proposal_number p).0 (protocol p) own (0 ∷ drop 1 t) writes [] 0 proposals.none
        (order_first (as_proposed next ++ []))

  alone-reads : proposals_code 16 exchange 0 proposals.none (as_proposed 0) ≡ 0
  alone-reads = one-reads exchange (size / 256 % 256) (size % 256) (proposal_number p).0 (protocol p) own (0 ∷ drop 1 t) (writes 0 (inl refl))

-- ---- the SA payload of a reply

-- DOI 1, situation 1, and then
abbrev framed : List ℕ → List ℕ
framed ps = 0 ∷ 0 ∷ 0 ∷ 1 ∷ 0 ∷ 0 ∷ 0 ∷ 1 ∷ ps

sa_body_lem : (next : ℕ) (ps : List ℕ) → drop 4 (sa_of next ps) ≡ framed ps
unfolding sa_of headed head bytes_of
sa_body_lem next ps = refl

framed_reads : (exchange : ℕ) (ps : List ℕ) → proposals_code 16 exchange 0 proposals.none ps ≡ 0 → offer_code exchange (framed ps) ≡ 0
unfolding number_at
framed_reads exchange ps h = offer-right exchange (framed ps) (omega arith) refl refl h

-- an SA payload is as long as it says
module _ (next : ℕ) (ps : List ℕ) where
  sa_length : length (sa_of next ps) ≡ 12 + length ps
  unfolding sa_of
  sa_length =
      omega (
        arith,
        length_headed next (bytes_of 4 1 ++ (bytes_of 4 1 ++ ps)),
        length-append (bytes_of 4 1) (bytes_of 4 1 ++ ps),
        length-append (bytes_of 4 1) ps,
        length_bytes_of 4 1,
      )

  pub sa_lies : length (sa_of next ps) < 65536 → number_at 2 (sa_of next ps) 2 ≡ length (sa_of next ps)
  unfolding sa_of
  sa_lies h =
      let rest : List ℕ = bytes_of 4 1 ++ (bytes_of 4 1 ++ ps) in
      headed-lies next rest (omega (arith, length_headed next rest)) ∙ sym (length_headed next rest)

  pub sa_long : 12 ≤ length (sa_of next ps)
  sa_long = omega (arith, sa_length)

  pub sa_begins : (get_or (sa_of next ps) 0 0 ≡ next) × (get_or (sa_of next ps) 1 0 ≡ 0)
  unfolding sa_of headed head
  sa_begins = (refl, refl)

-- the body of a reply, beside the set s that it answers, in whose proposal j the transform chosen j is taken
pub record Repeats (exchange ah esp : ℕ) (s : List ℕ) (chosen : ℕ → List ℕ) (body : List ℕ) : Type 0 where
  pub readable : offer_code exchange body ≡ 0
  pub alone : set_count body ≡ 1
  pub whole : set 0 body ≡ drop 8 body
  pub as_many : proposal_count (set 0 body) ≡ proposal_count s
  pub each : (j : ℕ) → j < proposal_count s → Answers ah esp (proposal j s) (chosen j) (proposal j (set 0 body))

module _ (exchange ah esp : ℕ) (small-ah : ah < 4294967296) (small-esp : esp < 4294967296) (s : List ℕ) (chosen : ℕ → List ℕ)
    (first : Offered exchange ah esp (proposal 0 s) (chosen 0)) where
  abbrev first-bytes : ℕ → List ℕ
  first-bytes next = as_proposed exchange ah esp small-ah small-esp (proposal 0 s) (chosen 0) first next

  module _ (one : proposal_count s ≡ 1) where
    parts-one : OneSet (framed (first-bytes 0)) (first-bytes 0 ∷ [])
    unfolding flatten
    parts-one =
        let lawful = item exchange ah esp small-ah small-esp (proposal 0 s) (chosen 0) first 0 (inl refl) in
        one_set (framed (first-bytes 0)) (first-bytes 0) [] lawful end same_end (omega arith) (sym (append-nil (first-bytes 0)))

    one-repeats : Repeats exchange ah esp s chosen (framed (first-bytes 0))
    unfolding flatten
    one-repeats = record {
      readable = framed_reads exchange (first-bytes 0) (alone-reads exchange ah esp small-ah small-esp (proposal 0 s) (chosen 0) first);
      alone = parts-one.alone;
      whole = parts-one.is ∙ append-nil (first-bytes 0);
      as_many = parts-one.count ∙ sym one;
      each = each;
    }
      where
        each : (j : ℕ) → j < proposal_count s → Answers ah esp (proposal j s) (chosen j) (proposal j (set 0 (framed (first-bytes 0))))
        each zero h = rw (parts-one.place 0 (omega arith)) (answers exchange ah esp small-ah small-esp (proposal 0 s) (chosen 0) first 0 (inl refl))
        each (suc j) h = absurd (omega arith)

  module _ (second : Offered exchange ah esp (proposal 1 s) (chosen 1)) (two : proposal_count s ≡ 2) (quick : exchange ≡ 32)
      (same : proposal_number (proposal 1 s) ≡ proposal_number (proposal 0 s)) (other : protocol (proposal 0 s) ≡ protocol (proposal 1 s) → ⊥) where
    abbrev second-bytes : List ℕ
    second-bytes = as_proposed exchange ah esp small-ah small-esp (proposal 1 s) (chosen 1) second 0

    abbrev both_bytes : List ℕ
    both_bytes = first-bytes 2 ++ second-bytes

    same-value : (proposal_number (proposal 1 s)).0 ≡ (proposal_number (proposal 0 s)).0
    same-value = ap (λ (n : ProposalNumber). n.0) same

    two-lawful : Rising exchange (get_or (first-bytes 2) 4 0) (second-bytes ∷ [])
    two-lawful =
        let lawful = item exchange ah esp small-ah small-esp (proposal 1 s) (chosen 1) second 0 (inl refl) in
        let order : get_or (first-bytes 2) 4 0 ≤ get_or second-bytes 4 0 = omega (arith, same-value) in
        on lawful order end

    two-bytes-read : proposals_code 16 exchange 0 proposals.none both_bytes ≡ 0
    two-bytes-read =
        let w = writes exchange ah esp small-ah small-esp (proposal 0 s) (chosen 0) first 2 (inr (refl, quick)) in
        let w2 = writes exchange ah esp small-ah small-esp (proposal 1 s) (chosen 1) second 0 (inl refl) in
        rw same-value (two-read exchange _ _ (proposal_number (proposal 0 s)).0 _ _ _ w _ _ _ _ _ w2 other)

    parts-two : OneSet (framed both_bytes) (first-bytes 2 ∷ second-bytes ∷ [])
    unfolding flatten
    parts-two =
        let lawful = item exchange ah esp small-ah small-esp (proposal 0 s) (chosen 0) first 2 (inr (refl, quick)) in
        let one_number : Same (get_or (first-bytes 2) 4 0) (second-bytes ∷ []) = same-on {p = second-bytes} same-value same_end in
        one_set (framed both_bytes) (first-bytes 2) (second-bytes ∷ []) lawful two-lawful one_number (omega arith)
        (ap (λ (l : List ℕ). first-bytes 2 ++ l) (sym (append-nil second-bytes)))

    two_repeat : Repeats exchange ah esp s chosen (framed both_bytes)
    unfolding flatten
    two_repeat = record {
      readable = framed_reads exchange both_bytes two-bytes-read;
      alone = parts-two.alone;
      whole = parts-two.is ∙ ap (λ (l : List ℕ). first-bytes 2 ++ l) (append-nil second-bytes);
      as_many = parts-two.count ∙ sym two;
      each = each;
    }
      where
        each : (j : ℕ) → j < proposal_count s → Answers ah esp (proposal j s) (chosen j) (proposal j (set 0 (framed both_bytes)))
        each zero h = rw (parts-two.place 0 (omega arith)) (answers exchange ah esp small-ah small-esp (proposal 0 s) (chosen 0) first 2 (inr (refl, quick)))
        each (suc zero) h = rw (parts-two.place 1 (omega arith)) (answers exchange ah esp small-ah small-esp (proposal 1 s) (chosen 1) second 0 (inl refl))
        each (suc (suc j)) h = absurd (omega arith)

-- ---- what the choice takes of an offered proposal

offered : (exchange i : ℕ) (book p : List ℕ) → Item exchange p → Passes exchange i book p → (ah esp : ℕ) → spi_low ah esp (protocol p) ≡ false →
    Offered exchange ah esp p (chosen_in exchange i book p)
unfolding protocol
offered exchange i book p item some ah esp high =
    let k : ℕ = lowest exchange i book p - 1 in
    let suits = taken exchange i book p item some in
    record {
      known = item.known;
      lawful = transform-lawful exchange p item k suits.0;
      short = suiting_short exchange i book p k item suits.0 suits.1;
      high = high;
    }

-- ---- the reply to a set that suits a line

record Replies (exchange i ah esp : ℕ) (book s : List ℕ) : Type 0 where
  bytes : List ℕ
  is : set_reply ah esp (transforms_of exchange i book s) s ≡ bytes
  repeats : Repeats exchange ah esp s (λ j. chosen_in exchange i book (proposal j s)) (framed bytes)
  few : length bytes ≤ 136

module _ (exchange i ah esp : ℕ) (book s : List ℕ) (lawful : LawfulSet exchange s) (suits : Passed exchange i book s) (small-ah : ah < 4294967296)
    (small-esp : esp < 4294967296) where
  abbrev chosen_at : ℕ → List ℕ
  chosen_at j = chosen_in exchange i book (proposal j s)

  -- proposal j, where the own SPI that it uses is not low
  module _ (j : ℕ) (l : j < proposal_count s) (high : spi_low ah esp (protocol (proposal j s)) ≡ false) where
    offered-at : Offered exchange ah esp (proposal j s) (chosen_at j)
    offered-at = offered exchange i book (proposal j s) (lawful.lawful j l) (suits.each j l) ah esp high

    abbrev bytes-at : ℕ → List ℕ
    bytes-at next = as_proposed exchange ah esp small-ah small-esp (proposal j s) (chosen_at j) offered-at next

    reply_is : (next : ℕ) → proposal_reply ah esp next (number_of (lowest exchange i book (proposal j s)) (proposal j s)) (proposal j s) ≡ bytes-at next
    unfolding proposal_reply
    reply_is next =
        rw (taken-by-number exchange i book (proposal j s) (lawful.lawful j l) (suits.each j l))
        (is_proposed exchange ah esp small-ah small-esp (proposal j s) (chosen_at j) offered-at next)

    bytes-few : (next : ℕ) → length (bytes-at next) ≤ 68
    bytes-few next = proposed_length exchange ah esp small-ah small-esp (proposal j s) (chosen_at j) offered-at

  low_first : (t : Transforms) → spis_low ah esp t s ≡ false → spi_low ah esp (protocol (proposal 0 s)) ≡ false
  unfolding spis_low
  low_first (One t) h = h
  low_first (Two t u) h = (neither _ (spi_low ah esp (protocol (proposal 1 s))) h).0

  low_second : (t u : TransformNumber) → spis_low ah esp (Two t u) s ≡ false → spi_low ah esp (protocol (proposal 1 s)) ≡ false
  unfolding spis_low
  low_second t u h = (neither (spi_low ah esp (protocol (proposal 0 s))) _ h).1

  replies_one : proposal_count s ≡ 1 → spis_low ah esp (transforms_of exchange i book s) s ≡ false → Replies exchange i ah esp book s
  unfolding transforms_of set_reply
  replies_one one low =
      let high = low_first (transforms_of exchange i book s) low in
      let first = offered-at 0 lawful.some high in
      record {
        bytes = bytes-at 0 lawful.some high 0;
        is = rw (eq-eqb (proposal_count s) 1 one) (reply_is 0 lawful.some high 0);
        repeats = one-repeats exchange ah esp small-ah small-esp s chosen_at first one;
        few = omega (arith, bytes-few 0 lawful.some high 0);
      }

  replies_two : Pair s → spis_low ah esp (transforms_of exchange i book s) s ≡ false → Replies exchange i ah esp book s
  unfolding transforms_of set_reply
  replies_two p low =
      let second : 1 < proposal_count s = omega (arith, p.two) in
      let several : eqb (proposal_count s) 1 ≡ false = ne_eqb (proposal_count s) 1 (λ e. omega arith) in
      let high = low_first (transforms_of exchange i book s) low in
      let high2 = low_second _ _ (rw several at low) in
      let a = offered-at 0 lawful.some high in
      let b = offered-at 1 second high2 in
      let quick : exchange ≡ 32 = known-quick (known_of exchange (protocol (proposal 0 s)) a.known) p.quick in
      record {
        bytes = bytes-at 0 lawful.some high 2 ++ bytes-at 1 second high2 0;
        is = rw (several, reply_is 0 lawful.some high 2, reply_is 1 second high2 0);
        repeats = two_repeat exchange ah esp small-ah small-esp s chosen_at a b p.two quick (lawful.one_number 1 second) p.other;
        few = omega (
          arith,
          length-append (bytes-at 0 lawful.some high 2) (bytes-at 1 second high2 0),
          bytes-few 0 lawful.some high 2,
          bytes-few 1 second high2 0,
        );
      }

  module _ (low : spis_low ah esp (transforms_of exchange i book s) s ≡ false) where
    replies : Replies exchange i ah esp book s
    replies = ⊎_elim (λ one. replies_one one low) (λ p. replies_two p low) (shape s exchange i book suits.protocols)

    -- the body of the reply's SA payload, whatever payload comes next
    pub reply_repeats : (next : ℕ) → Repeats exchange ah esp s chosen_at (drop 4 (sa_of next (set_reply ah esp (transforms_of exchange i book s) s)))
    reply_repeats next = rw (sa_body_lem next (set_reply ah esp (transforms_of exchange i book s) s), replies.is) replies.repeats

    pub reply_short : (next : ℕ) → length (sa_of next (set_reply ah esp (transforms_of exchange i book s) s)) ≤ 148
    reply_short next =
        let ps : List ℕ = set_reply ah esp (transforms_of exchange i book s) s in
        omega (arith, sa_length next ps, ap length replies.is, replies.few)

-- ---- the reply to a choice

module _ (exchange count : ℕ) (book m : List ℕ) (number : ProposalNumber) (line : LineNumber) (transforms : Transforms)
    (c : Chose exchange count book m number line transforms) (ah esp : ℕ) (small-ah : ah < 4294967296) (small-esp : esp < 4294967296)
    (low : spis_low ah esp transforms (set_numbered number (sa_from 32 0 m)) ≡ false) where
  abbrev answered-set : List ℕ
  answered-set = set c.k (sa_from count 0 m)

  same_reply : set_reply ah esp transforms (set_numbered number (sa_from 32 0 m)) ≡ set_reply ah esp (transforms_of exchange c.i book answered-set) answered-set
  same_reply = rw (c.by_number, c.taken)

  not_low : spis_low ah esp (transforms_of exchange c.i book answered-set) answered-set ≡ false
  not_low = rw (c.by_number, c.taken) at low

  -- its SA payload reads, with these parts
  pub choice-repeats : (next : ℕ) →
      Repeats exchange ah esp answered-set (λ j. chosen_in exchange c.i book (proposal j answered-set))
      (drop 4 (sa_of next (set_reply ah esp transforms (set_numbered number (sa_from 32 0 m)))))
  choice-repeats next = rw same_reply (reply_repeats exchange c.i ah esp book answered-set c.lawful c.suits small-ah small-esp not_low next)

  pub choice-short : (next : ℕ) → length (sa_of next (set_reply ah esp transforms (set_numbered number (sa_from 32 0 m)))) ≤ 148
  choice-short next = rw same_reply (reply_short exchange c.i ah esp book answered-set c.lawful c.suits small-ah small-esp not_low next)

-- and it is what stands in the buffer
pub choice-written : (book m buffer : List ℕ) (ah esp : ℕ) (number : ProposalNumber) (line : LineNumber) (transforms : Transforms) →
    choice book m ≡ Chosen number line transforms → 2048 ≤ length buffer → spis_low ah esp transforms (set_numbered number (sa_from 32 0 m)) ≡ false →
    replied book m ah esp buffer
    ≡ (
      Written (length (sa_of 0 (set_reply ah esp transforms (set_numbered number (sa_from 32 0 m))))),
      paste buffer 0 (sa_of 0 (set_reply ah esp transforms (set_numbered number (sa_from 32 0 m)))),
    )
unfolding replied choice_replied set_replied
choice-written book m buffer ah esp number line transforms e room low = rw (le-ltb (length buffer) 2048 room, e, low)
