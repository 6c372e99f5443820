-- A law for each way out of the functions that write the reply.
use Prim.Native.Nat.{ℕ, ◌+◌, ◌≤◌, ◌<◌}
use mathlib.Core.Path.{◌≡◌, sym, ap, ◌∙◌}
use mathlib.Core.List.{List, [], ◌∷◌, ◌++◌}
use mathlib.Core.Bool.{Bool, true, false, ◌||◌, or-false}
use native.Mathlib.Omega.{arith}
use lib.ListN.{length, drop, length-drop, length-append}
use lib.Dec.{eqb, ltb}
use borrow.Author.Tests.{eq-eqb, ne_eqb, eqb-true, lt-ltb, le-ltb}
use Rattle.wire_write.specs.Put.{bytes_of, head, headed, paste, put}
use Rattle.wire_read.proofs.Tests.{by_test}
use Rattle.wire_write.proofs.Laws.{length_bytes_of, length_head, length_headed, paste-append, put-size, put-after, put_before, put-head-last}
use Rattle.sa_fields.specs.Fields.{proposal_number, protocol}
use Rattle.sa_sets.specs.Sets.{set_numbered}
use Rattle.sa_items.specs.Items.{proposal, transform_numbered}
use Rattle.sa_fields.specs.declared.ProposalNumber.{ProposalNumber}
use Rattle.sa_fields.specs.declared.TransformNumber.{TransformNumber}
use Rattle.sa_items.proofs.Laws.{transform-within, two-within}
use Rattle.policy_choice.specs.Choice.{sa_from, choice}
use Rattle.policy_reply.specs.Reply.{spi_of, own_spi, fields, proposal_of, proposal_reply, set_reply, sa_of, spi_low, spis_low, set_replied, choice_replied, replied}
use Rattle.policy_lines.specs.declared.LineNumber.{LineNumber}
use Rattle.policy_choice.specs.declared.Transforms.{Transforms}
use Rattle.policy_choice.specs.declared.Transforms.TheVariants.{One, Two}
use Rattle.policy_choice.specs.Choice.{Choice}
use Rattle.policy_choice.specs.Choice as choices
use Rattle.policy_reply.specs.Reply.{Outcome, Refused, Written, outcome_told}
use Rattle.std.specs.Prelude.{Option, Some, None}

-- ---- an own SPI

module _ (ah esp protocol : ℕ) where
  pub spi-ah : protocol ≡ 2 → Some ah ≡ spi_of ah esp protocol
  unfolding spi_of
  spi-ah h = rw (eq-eqb protocol 2 h)

  pub spi-esp : protocol ≡ 3 → Some esp ≡ spi_of ah esp protocol
  unfolding spi_of
  spi-esp h = rw h

  pub spi-none : (protocol ≡ 2 → ⊥) → (protocol ≡ 3 → ⊥) → None ≡ spi_of ah esp protocol
  unfolding spi_of
  spi-none other h = rw (ne_eqb protocol 2 other, ne_eqb protocol 3 h)

-- the bytes of the own SPI of a protocol, none where it has none
spi_bytes : (own : Option ℕ) → List ℕ
spi_bytes (Some spi) = bytes_of 4 spi
spi_bytes None = []

own_bytes : (ah esp protocol : ℕ) → own_spi ah esp protocol ≡ spi_bytes (spi_of ah esp protocol)
unfolding own_spi spi_of spi_bytes
own_bytes ah esp protocol =
    by_test (eqb protocol 2) (λ e. rw e) (λ e. by_test (eqb protocol 3) (λ f. rw (e, f)) (λ f. rw (e, f)))

module _ (l : List ℕ) (at ah esp protocol : ℕ) (own : Option ℕ) (eo : own ≡ spi_of ah esp protocol) where
  pub spi-unwritten : own ≡ None → put l at (own_spi ah esp protocol) ≡ (0, l)
  unfolding put paste spi_bytes
  spi-unwritten h = rw (own_bytes ah esp protocol, ← eo, h)

  pub spi-written : (spi : ℕ) → own ≡ Some spi → (b : List ℕ) → b ≡ paste l at (bytes_of 4 spi) → put l at (own_spi ah esp protocol) ≡ (4, b)
  unfolding put spi_bytes
  spi-written spi h b e = rw (own_bytes ah esp protocol, ← eo, h, length_bytes_of 4 spi, ← e)

-- ---- a proposal

pub length_fields : (next size number protocol spi : ℕ) → length (fields next size number protocol spi) ≡ 8
unfolding fields
length_fields next size number protocol spi = length-append (head next size) (number ∷ protocol ∷ spi ∷ 1 ∷ []) ∙ omega (arith, length_head next size)

paste-behind : (l : List ℕ) (i n : ℕ) (xs ys : List ℕ) → length xs ≡ n → paste (paste l i xs) (i + n) ys ≡ paste l i (xs ++ ys)
paste-behind l i n xs ys e = rw (← e) (paste-append l i xs ys)

module _ (l : List ℕ) (at next number protocol : ℕ) where
  pub fields-written : (size spi : ℕ) (b c : List ℕ) → b ≡ paste l at (head next size) → c ≡ paste b (at + 4) (number ∷ protocol ∷ spi ∷ 1 ∷ []) →
      c ≡ paste l at (fields next size number protocol spi)
  unfolding fields
  fields-written size spi b c e f = rw (f, e) (paste-behind l at 4 (head next size) _ (length_head next size))

  -- from the SPI outwards
  pub proposal-written : (n k : ℕ) (spi t rest b1 b2 b3 : List ℕ) → rest ≡ drop 4 t →
      put l (at + 8) spi ≡ (n, b1) →
      put b1 (at + 8 + n) (headed 0 rest) ≡ (k, b2) →
      b3 ≡ paste b2 at (fields next (12 + n + length rest) number protocol n) →
      put l at (proposal_of next number protocol spi t) ≡ (12 + n + length rest, b3)
  unfolding proposal_of
  proposal-written n k spi t rest b1 b2 b3 er e1 e2 e3 =
      let en : length spi ≡ n = put-size l b1 (at + 8) n spi e1 in
      let ek : 4 + length rest ≡ k = sym (length_headed 0 rest) ∙ put-size b1 b2 (at + 8 + n) k (headed 0 rest) e2 in
      let inner : put l (at + 8) (spi ++ headed 0 rest) ≡ (n + k, b2) = put-after l b1 b2 (at + 8) n spi (headed 0 rest) k e1 e2 in
      let size : 8 + length (spi ++ headed 0 rest) ≡ 12 + n + length rest = omega (arith, put-size l b2 (at + 8) (n + k) (spi ++ headed 0 rest) inner) in
      let eight : length (fields next (12 + n + length rest) number protocol n) ≡ 8 = length_fields next (12 + n + length rest) number protocol n in
      rw (← er, size, en)
      (put_before l b2 b3 at (n + k) (fields next (12 + n + length rest) number protocol n) (spi ++ headed 0 rest) (rw eight inner) e3
      ∙ ap (λ (k : ℕ). (k, b3)) (omega arith))

-- ---- the proposals of a reply

module _ (l b : List ℕ) (at ah esp next r : ℕ) (number : TransformNumber) (p t : List ℕ) (n : ProposalNumber) (k : ℕ) where
  pub offered-written : t ≡ transform_numbered number p → n ≡ proposal_number p → k ≡ protocol p →
      put l at (proposal_of next n.0 k (own_spi ah esp k) t) ≡ (r, b) → put l at (proposal_reply ah esp next number p) ≡ (r, b)
  unfolding proposal_reply
  offered-written et en ek e = rw (← et, ← en, ← ek) e

-- a reply is a few bytes longer than what it repeats, at most
spi-few : (ah esp protocol : ℕ) → length (own_spi ah esp protocol) ≤ 4
unfolding own_spi
spi-few ah esp protocol =
    by_test (eqb protocol 2) (λ e. rw e (omega (arith, length_bytes_of 4 ah)))
    (λ e. by_test (eqb protocol 3) (λ f. rw (e, f) (omega (arith, length_bytes_of 4 esp))) (λ f. rw (e, f) (omega arith)))

pub proposal-size : (next number protocol : ℕ) (spi t : List ℕ) → length (proposal_of next number protocol spi t) ≡ 12 + length spi + length (drop 4 t)
unfolding proposal_of
proposal-size next number protocol spi t =
    let size : ℕ = 8 + length (spi ++ headed 0 (drop 4 t)) in
    length-append (fields next size number protocol (length spi)) (spi ++ headed 0 (drop 4 t))
    ∙ omega (arith, length_fields next size number protocol (length spi), length-append spi (headed 0 (drop 4 t)), length_headed 0 (drop 4 t))

offered-size : (ah esp next : ℕ) (number : TransformNumber) (p : List ℕ) → length (proposal_reply ah esp next number p) ≤ 16 + length p
unfolding proposal_reply
offered-size ah esp next number p =
    omega (
      arith,
      proposal-size next (proposal_number p).0 (protocol p) (own_spi ah esp (protocol p)) (transform_numbered number p),
      spi-few ah esp (protocol p),
      length-drop 4 (transform_numbered number p),
      transform-within number p,
    )

module _ (l b : List ℕ) (at ah esp n : ℕ) (t : TransformNumber) (s p : List ℕ) (ep : p ≡ proposal 0 s) where
  pub first-size : (next : ℕ) → put l at (proposal_reply ah esp next t p) ≡ (n, b) → n ≤ 16 + length s
  first-size next e = omega (arith, put-size l b at n (proposal_reply ah esp next t p) e, offered-size ah esp next t p, two-within s, ap length ep)

  pub set-one : (transforms : Transforms) → transforms ≡ One t → put l at (proposal_reply ah esp 0 t p) ≡ (n, b) →
      put l at (set_reply ah esp transforms s) ≡ (n, b)
  unfolding set_reply
  set-one transforms h e = rw (h, ← ep) e

  module _ (c q : List ℕ) (u : TransformNumber) (k : ℕ) (eq : q ≡ proposal 1 s) (e : put l at (proposal_reply ah esp 2 t p) ≡ (n, b))
      (f : put b (at + n) (proposal_reply ah esp 0 u q) ≡ (k, c)) where
    pub both-size : n + k ≤ 32 + length s
    both-size =
        omega (
          arith,
          put-size l b at n (proposal_reply ah esp 2 t p) e,
          put-size b c (at + n) k (proposal_reply ah esp 0 u q) f,
          offered-size ah esp 2 t p,
          offered-size ah esp 0 u q,
          two-within s,
          ap length ep,
          ap length eq,
        )

    pub set-two : (transforms : Transforms) → transforms ≡ Two t u → put l at (set_reply ah esp transforms s) ≡ (n + k, c)
    unfolding set_reply
    set-two transforms h = rw (h, ← ep, ← eq) (put-after l b c at n (proposal_reply ah esp 2 t p) (proposal_reply ah esp 0 u q) k e f)

-- ---- the SA payload

pub set-size : (ah esp : ℕ) (transforms : Transforms) (s : List ℕ) → length (set_reply ah esp transforms s) ≤ 32 + length s
unfolding set_reply
set-size ah esp (One t) s = omega (arith, offered-size ah esp 0 t (proposal 0 s), two-within s)
set-size ah esp (Two t u) s =
    omega (
      arith,
      length-append (proposal_reply ah esp 2 t (proposal 0 s)) (proposal_reply ah esp 0 u (proposal 1 s)),
      offered-size ah esp 2 t (proposal 0 s),
      offered-size ah esp 0 u (proposal 1 s),
      two-within s,
    )

module _ (l b : List ℕ) (at ah esp n : ℕ) (transforms : Transforms) (s : List ℕ) (e : put l (at + 12) (set_reply ah esp transforms s) ≡ (n, b)) where
  pub set-fits : n ≤ 32 + length s
  set-fits = omega (arith, put-size l b (at + 12) n (set_reply ah esp transforms s) e, set-size ah esp transforms s)

pub sa_size : (next : ℕ) (proposals : List ℕ) → length (sa_of next proposals) ≡ 12 + length proposals
unfolding sa_of bytes_of
sa_size next proposals = length_headed next (0 ∷ 0 ∷ 0 ∷ 1 ∷ 0 ∷ 0 ∷ 0 ∷ 1 ∷ proposals) ∙ omega arith

pub reply_fits : (l b : List ℕ) (at next ah esp n : ℕ) (transforms : Transforms) (s : List ℕ) → put l at (sa_of next (set_reply ah esp transforms s)) ≡ (n, b) →
    n ≤ 44 + length s
reply_fits l b at next ah esp n transforms s e =
    omega (arith, put-size l b at n (sa_of next (set_reply ah esp transforms s)) e, sa_size next (set_reply ah esp transforms s), set-size ah esp transforms s)

-- DOI, situation and head, written before the proposals
pub sa_written : (l b : List ℕ) (at n : ℕ) (proposals : List ℕ) → put l (at + 12) proposals ≡ (n, b) →
    (next : ℕ) (c d : List ℕ) → c ≡ paste b (at + 4) (0 ∷ 0 ∷ 0 ∷ 1 ∷ 0 ∷ 0 ∷ 0 ∷ 1 ∷ []) → d ≡ paste c at (head next (12 + n)) →
    put l at (sa_of next proposals) ≡ (12 + n, d)
unfolding sa_of bytes_of
sa_written l b at n proposals e next c d f g =
    let inner : put l (at + 4 + 8) proposals ≡ (n, b) = ap (λ (k : ℕ). put l k proposals) (omega arith) ∙ e in
    let last : d ≡ paste c at (head next (4 + (8 + n))) = g ∙ ap (λ (k : ℕ). paste c at (head next k)) (omega arith) in
    put-head-last l c d at (8 + n) next _ (put_before l b c (at + 4) n (0 ∷ 0 ∷ 0 ∷ 1 ∷ 0 ∷ 0 ∷ 0 ∷ 1 ∷ []) proposals inner f) last
    ∙ ap (λ (k : ℕ). (k, d)) (omega arith)

-- ---- own SPIs

-- whether it is below 256
spi_below : (own : Option ℕ) → Bool
spi_below (Some spi) = ltb spi 256
spi_below None = false

below-is : (ah esp protocol : ℕ) → spi_below (spi_of ah esp protocol) ≡ spi_low ah esp protocol
unfolding spi_of spi_low spi_below
below-is ah esp protocol =
    by_test (eqb protocol 2)
    (λ e. let other : eqb protocol 3 ≡ false = rw (eqb-true protocol 2 e) in rw (e, other, or-false))
    (λ e. by_test (eqb protocol 3) (λ f. rw (e, f)) (λ f. rw (e, f)))

module _ (ah esp protocol : ℕ) (own : Option ℕ) (eo : own ≡ spi_of ah esp protocol) where
  pub low-some : (spi : ℕ) → own ≡ Some spi → ltb spi 256 ≡ spi_low ah esp protocol
  unfolding spi_below
  low-some spi h = ap spi_below (sym h ∙ eo) ∙ below-is ah esp protocol

  pub low-none : own ≡ None → false ≡ spi_low ah esp protocol
  unfolding spi_below
  low-none h = ap spi_below (sym h ∙ eo) ∙ below-is ah esp protocol

module _ (ah esp : ℕ) (s p : List ℕ) (k : ℕ) (low : Bool) (ep : p ≡ proposal 0 s) (ek : k ≡ protocol p) (el : low ≡ spi_low ah esp k) where
  pub low_one : (transforms : Transforms) (t : TransformNumber) → transforms ≡ One t → low ≡ spis_low ah esp transforms s
  unfolding spis_low
  low_one transforms t e = rw (e, el, ek, ep)

  pub low_two : (transforms : Transforms) (t u : TransformNumber) → transforms ≡ Two t u → (q : List ℕ) (j : ℕ) (second : Bool) →
      q ≡ proposal 1 s → j ≡ protocol q → second ≡ spi_low ah esp j → (low || second) ≡ spis_low ah esp transforms s
  unfolding spis_low
  low_two transforms t u e q j second eq ej es = rw (e, el, ek, ep, es, ej, eq)

-- ---- the reply

module _ (book m l : List ℕ) (ah esp : ℕ) where
  pub reply_small : length l < 2048 → replied book m ah esp l ≡ (Refused 8192, l)
  unfolding replied
  reply_small h = rw (lt-ltb (length l) 2048 h)

  module _ (room : 2048 ≤ length l) where
    pub reply_refused_lem : (number : ℕ) → choices.Refused number ≡ choice book m → (r : Outcome) → r ≡ Refused number → replied book m ah esp l ≡ (r, l)
    unfolding replied choice_replied
    reply_refused_lem number h r e = rw (le-ltb (length l) 2048 room, ← h, e)

    module _ (number : ProposalNumber) (line : LineNumber) (transforms : Transforms) (chosen : choices.Chosen number line transforms ≡ choice book m)
        (body s : List ℕ) (eb : body ≡ sa_from 32 0 m) (es : s ≡ set_numbered number body) (low : Bool) (el : low ≡ spis_low ah esp transforms s) where
      pub reply_low : low ≡ true → replied book m ah esp l ≡ (Refused 11, l)
      unfolding replied choice_replied set_replied
      reply_low h = rw (le-ltb (length l) 2048 room, ← chosen, ← eb, ← es, ← el, h)

      pub reply_written : low ≡ false → (n : ℕ) (b : List ℕ) → put l 0 (sa_of 0 (set_reply ah esp transforms s)) ≡ (n, b) →
          replied book m ah esp l ≡ (Written n, b)
      unfolding replied choice_replied set_replied put
      reply_written h n b e =
          let en : length (sa_of 0 (set_reply ah esp transforms s)) ≡ n = ap (λ (p : ℕ × List ℕ). p.0) e in
          let ew : paste l 0 (sa_of 0 (set_reply ah esp transforms s)) ≡ b = ap (λ (p : ℕ × List ℕ). p.1) e in
          rw (le-ltb (length l) 2048 room, ← chosen, ← eb, ← es, ← el, h, en, ew)
