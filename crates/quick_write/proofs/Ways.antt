-- A law for each way out of the functions that write messages.
use Prim.Native.Nat.{ℕ, zero, suc, min, ◌+◌, ◌-◌, ◌*◌, ◌/◌, ◌%◌, ◌≤◌, ◌<◌}
use mathlib.Core.Path.{◌≡◌, refl, sym, ap, ◌∙◌}
use mathlib.Core.List.{List, [], ◌∷◌, ◌++◌, append_assoc}
use mathlib.Core.Bool.{true, false, ◌||◌, ◌&&◌}
use native.Mathlib.Omega.{arith}
use lib.ListN.{length, take, drop, replicate, length-take, length-append, length-drop, length-replicate}
use lib.Dec.{ltb, eqb}
use borrow.Author.Tests.{eq-eqb, ne_eqb, le-leb, lt-leb, ltb-false}
use Rattle.std.specs.Prelude.{None, Some}
use Rattle.wire_write.specs.Put.{bytes_of, head, headed, paste, put}
use Rattle.wire_read.proofs.Tests.{by_test, neither}
use Rattle.wire_write.proofs.Laws.{length_bytes_of, length_headed, paste-append, paste_before, put-size, put-after, put_before}
use Rattle.policy_lines.specs.Lines.{quick_count, quick_protocols, quick_mode, quick_seconds}
use Rattle.policy_suits.specs.Suits.{quick_id}
use Rattle.policy_reply.specs.Reply.{own_spi, proposal_of, set_reply, sa_of}
use Rattle.policy_reply.proofs.ReplyWays.{proposal-size, set-size, sa_size, sa_written}
use Rattle.policy_choice.specs.declared.Transforms.{Transforms}
use Rattle.quick_write.specs.Messages.{book_of, nonce_of, fixed, authentication, attributes, transform_one, line_proposal, line_set, next_set, line_sets, lines, offer_of, hash, padding, padded, header, message_of, around, nonce_and_identities, proposals_of, longer, too_long, written, longer_into, message_three}
use Rattle.quick_end.specs.declared.Own.{Own}
use Rattle.quick_write.specs.declared.Proposals.{Proposals}
use Rattle.quick_write.specs.declared.Proposals.TheVariants.{Offer, Reply}

-- ---- the header

behind : (l : List ℕ) (i n : ℕ) (xs ys : List ℕ) → length xs ≡ n → paste (paste l i xs) (i + n) ys ≡ paste l i (xs ++ ys)
behind l i n xs ys e = rw (← e) (paste-append l i xs ys)

pub header-written : (own : Own) (id size : ℕ) (l b1 b2 b3 b4 b5 : List ℕ) →
    b1 ≡ paste l 0 (bytes_of 8 own.icookie) → b2 ≡ paste b1 8 (bytes_of 8 own.rcookie) → b3 ≡ paste b2 16 (8 ∷ 0x11 ∷ 32 ∷ 1 ∷ []) →
    b4 ≡ paste b3 20 (bytes_of 4 id) → b5 ≡ paste b4 24 (bytes_of 4 size) → b5 ≡ paste l 0 (header own id size)
unfolding header
header-written own id size l b1 b2 b3 b4 b5 e1 e2 e3 e4 e5 =
    let k1 : length (bytes_of 8 own.icookie) ≡ 8 = length_bytes_of 8 own.icookie in
    let k2 : length (bytes_of 8 own.rcookie) ≡ 8 = length_bytes_of 8 own.rcookie in
    let k4 : length (bytes_of 4 id) ≡ 4 = length_bytes_of 4 id in
    let last : b5 ≡ paste b3 20 (bytes_of 4 id ++ bytes_of 4 size) =
    e5 ∙ ap (λ (l : List ℕ). paste l 24 (bytes_of 4 size)) e4 ∙ behind b3 20 4 (bytes_of 4 id) (bytes_of 4 size) k4 in
    let third : b5 ≡ paste b2 16 (8 ∷ 0x11 ∷ 32 ∷ 1 ∷ bytes_of 4 id ++ bytes_of 4 size) =
    last ∙ ap (λ (l : List ℕ). paste l 20 (bytes_of 4 id ++ bytes_of 4 size)) e3
    ∙ behind b2 16 4 (8 ∷ 0x11 ∷ 32 ∷ 1 ∷ []) (bytes_of 4 id ++ bytes_of 4 size) refl in
    let second : b5 ≡ paste b1 8 (bytes_of 8 own.rcookie ++ (8 ∷ 0x11 ∷ 32 ∷ 1 ∷ bytes_of 4 id ++ bytes_of 4 size)) =
    third ∙ ap (λ (l : List ℕ). paste l 16 (8 ∷ 0x11 ∷ 32 ∷ 1 ∷ bytes_of 4 id ++ bytes_of 4 size)) e2 ∙ behind b1 8 8 (bytes_of 8 own.rcookie) _ k2 in
    second ∙ ap (λ (l : List ℕ). paste l 8 (bytes_of 8 own.rcookie ++ (8 ∷ 0x11 ∷ 32 ∷ 1 ∷ bytes_of 4 id ++ bytes_of 4 size))) e1
    ∙ behind l 0 8 (bytes_of 8 own.icookie) _ k1

-- ---- an offer's proposals

module _ (l b : List ℕ) (at ah esp next protocol i r : ℕ) (book : List ℕ) (id mode seconds protocols : ℕ) (ek : id ≡ quick_id protocol)
    (em : mode ≡ quick_mode i book) (es : seconds ≡ quick_seconds i book) (ep : protocols ≡ quick_protocols i book) where
  -- the bytes of the transform as the code has them: up to the mode, and the life at its end
  abbrev with_mode : List ℕ → List ℕ
  with_mode rest = 0 ∷ 0 ∷ 0 ∷ 0 ∷ 1 ∷ id ∷ 0 ∷ 0 ∷ 0x80 ∷ 4 ∷ 0 ∷ mode ∷ rest

  abbrev life : List ℕ
  life = 0x80 ∷ 1 ∷ 0 ∷ 1 ∷ 0x80 ∷ 2 ∷ seconds / 256 % 256 ∷ seconds % 256 ∷ []

  pub line-short : (eqb protocols 2 && eqb protocol 3) ≡ true → put l at (proposal_of next (i + 1) protocol (own_spi ah esp protocol) (with_mode life)) ≡ (r, b) →
      put l at (line_proposal ah esp next protocol i book) ≡ (r, b)
  unfolding line_proposal proposal_of transform_one attributes fixed authentication headed head bytes_of
  line-short h e = rw (← ek, ← em, ← es, ← ep, h) e

  pub line-long : (eqb protocols 2 && eqb protocol 3) ≡ false →
      put l at (proposal_of next (i + 1) protocol (own_spi ah esp protocol) (with_mode (0x80 ∷ 5 ∷ 0 ∷ 20 ∷ life))) ≡ (r, b) →
      put l at (line_proposal ah esp next protocol i book) ≡ (r, b)
  unfolding line_proposal proposal_of transform_one attributes fixed authentication headed head bytes_of
  line-long h e = rw (← ek, ← em, ← es, ← ep, h) e

-- ---- how long an offer is

spi-few : (ah esp protocol : ℕ) → length (own_spi ah esp protocol) ≤ 4
unfolding own_spi
spi-few ah esp protocol =
    by_test (eqb protocol 2) (λ e. rw e (omega (arith, length_bytes_of 4 ah)))
    (λ e. by_test (eqb protocol 3) (λ f. rw (e, f) (omega (arith, length_bytes_of 4 esp))) (λ f. rw (e, f) (omega arith)))

authentication-few : (protocols protocol : ℕ) → length (authentication protocols protocol) ≤ 4
unfolding authentication fixed
authentication-few protocols protocol = by_test (eqb protocols 2 && eqb protocol 3) (λ e. rw e (omega arith)) (λ e. rw e (omega arith))

transform-few : (protocol i : ℕ) (book : List ℕ) → length (drop 4 (transform_one protocol i book)) ≤ 20
unfolding transform_one attributes fixed headed head bytes_of
transform-few protocol i book =
    omega (
      arith,
      length-append (authentication (quick_protocols i book) protocol)
          (0x80 ∷ 1 ∷ 0 ∷ 1 ∷ 0x80 ∷ 2 ∷ quick_seconds i book / 256 % 256 ∷ quick_seconds i book % 256 ∷ []),
      authentication-few (quick_protocols i book) protocol,
    )

proposal-few : (ah esp next protocol i : ℕ) (book : List ℕ) → length (line_proposal ah esp next protocol i book) ≤ 36
unfolding line_proposal
proposal-few ah esp next protocol i book =
    omega (
      arith,
      proposal-size next (i + 1) protocol (own_spi ah esp protocol) (transform_one protocol i book),
      spi-few ah esp protocol,
      transform-few protocol i book,
    )

set-few : (ah esp next i : ℕ) (book : List ℕ) → length (line_set ah esp next i book) ≤ 72
unfolding line_set
set-few ah esp next i book =
    by_test (eqb (quick_protocols i book) 1) (λ e. rw e (omega (arith, proposal-few ah esp next 3 i book)))
    (λ e. rw e (omega (
      arith,
      length-append (line_proposal ah esp 2 2 i book) (line_proposal ah esp next 3 i book),
      proposal-few ah esp 2 2 i book,
      proposal-few ah esp next 3 i book,
    )))

pub sets-few : (n i ah esp : ℕ) (book : List ℕ) → length (line_sets n i ah esp book) ≤ 72 * n
unfolding line_sets
sets-few zero i ah esp book = omega arith
sets-few (suc n) i ah esp book =
    omega (
      arith,
      length-append (line_set ah esp (next_set (suc n)) i book) (line_sets n (i + 1) ah esp book),
      set-few ah esp (next_set (suc n)) i book,
      sets-few n (i + 1) ah esp book,
    )

module _ (l b : List ℕ) (at ah esp next i n : ℕ) (book : List ℕ) where
  pub proposal-fits : (protocol : ℕ) → put l at (line_proposal ah esp next protocol i book) ≡ (n, b) → n ≤ 36
  proposal-fits protocol e = omega (arith, put-size l b at n (line_proposal ah esp next protocol i book) e, proposal-few ah esp next protocol i book)

  pub set-fits : put l at (line_set ah esp next i book) ≡ (n, b) → n ≤ 72
  set-fits e = omega (arith, put-size l b at n (line_set ah esp next i book) e, set-few ah esp next i book)

pub sets_fit : (l b : List ℕ) (at n i ah esp r : ℕ) (book : List ℕ) → put l at (line_sets n i ah esp book) ≡ (r, b) → r ≤ 72 * n
sets_fit l b at n i ah esp r book e = omega (arith, put-size l b at r (line_sets n i ah esp book) e, sets-few n i ah esp book)

-- a proposal that is not made yet, by the bytes of its transform
pub any_fits : (l b : List ℕ) (at next number protocol ah esp n : ℕ) (t : List ℕ) →
    put l at (proposal_of next number protocol (own_spi ah esp protocol) t) ≡ (n, b) → length t ≤ 24 → n ≤ 36
any_fits l b at next number protocol ah esp n t e h =
    omega (
      arith,
      put-size l b at n (proposal_of next number protocol (own_spi ah esp protocol) t) e,
      proposal-size next number protocol (own_spi ah esp protocol) t,
      spi-few ah esp protocol,
      length-drop 4 t,
    )

-- ---- an offer's sets

module _ (l b : List ℕ) (at ah esp next i n : ℕ) (book : List ℕ) (protocols : ℕ) (ep : protocols ≡ quick_protocols i book) where
  pub set-alone : protocols ≡ 1 → put l at (line_proposal ah esp next 3 i book) ≡ (n, b) → put l at (line_set ah esp next i book) ≡ (n, b)
  unfolding line_set
  set-alone h e = rw (← ep, eq-eqb protocols 1 h) e

  pub set_both : (protocols ≡ 1 → ⊥) → (k : ℕ) (c : List ℕ) → put l at (line_proposal ah esp 2 2 i book) ≡ (n, b) →
      put b (at + n) (line_proposal ah esp next 3 i book) ≡ (k, c) →
      put l at (line_set ah esp next i book) ≡ (n + k, c)
  unfolding line_set
  set_both h k c e f = rw (← ep, ne_eqb protocols 1 h) (put-after l b c at n (line_proposal ah esp 2 2 i book) (line_proposal ah esp next 3 i book) k e f)

pub next_last : (n : ℕ) → n ≤ 1 → 0 ≡ next_set n
unfolding next_set
next_last n h = rw (le-leb n 1 h)

pub next_more : (n : ℕ) → 1 < n → 2 ≡ next_set n
unfolding next_set
next_more n h = rw (lt-leb n 1 h)

sets-step : (n i ah esp : ℕ) (book : List ℕ) → (n ≡ 0 → ⊥) →
    line_sets n i ah esp book ≡ line_set ah esp (next_set n) i book ++ line_sets (n - 1) (i + 1) ah esp book
unfolding line_sets
sets-step zero i ah esp book h = absurd (h refl)
sets-step (suc n) i ah esp book h = let e : suc n - 1 ≡ n = omega arith in rw e

module _ (l : List ℕ) (at n i ah esp : ℕ) (book : List ℕ) where
  pub sets-none : n ≡ 0 → put l at (line_sets n i ah esp book) ≡ (0, l)
  unfolding line_sets put paste
  sets-none z = rw z

  pub sets-on : (n ≡ 0 → ⊥) → (next r k : ℕ) (b c : List ℕ) → next ≡ next_set n → put l at (line_set ah esp next i book) ≡ (r, b) →
      put b (at + r) (line_sets (n - 1) (i + 1) ah esp book) ≡ (k, c) →
      put l at (line_sets n i ah esp book) ≡ (r + k, c)
  sets-on some next r k b c en e f =
      rw (sets-step n i ah esp book some, ← en) (put-after l b c at r (line_set ah esp next i book) (line_sets (n - 1) (i + 1) ah esp book) k e f)

-- ---- the SA payload

module _ (n : ℕ) (book : List ℕ) where
  pub lines-most : n ≡ lines book → n ≤ 8
  unfolding lines
  lines-most e = omega arith

pub offer-written : (own : Own) (l book : List ℕ) (n k : ℕ) (b c d : List ℕ) → book ≡ take own.booksize own.book → n ≡ lines book →
    put l 76 (line_sets n 0 own.ah own.esp book) ≡ (k, b) → c ≡ paste b 68 (0 ∷ 0 ∷ 0 ∷ 1 ∷ 0 ∷ 0 ∷ 0 ∷ 1 ∷ []) → d ≡ paste c 64 (head 10 (12 + k)) →
    put l 64 (sa_of 10 (offer_of own)) ≡ (12 + k, d)
unfolding offer_of book_of
offer-written own l book n k b c d eb en e f g = rw (← eb, ← en) (sa_written l b 64 k (line_sets n 0 own.ah own.esp book) e 10 c d f g)

offer-few : (own : Own) → length (offer_of own) ≤ 576
unfolding offer_of
offer-few own = omega (arith, sets-few (lines (book_of own)) 0 own.ah own.esp (book_of own), lines-most (lines (book_of own)) (book_of own) refl)

module _ (own : Own) (l b : List ℕ) (r : ℕ) (proposals : Proposals) (set : List ℕ) where
  pub sa_offer : proposals ≡ Offer → put l 64 (sa_of 10 (offer_of own)) ≡ (r, b) → put l 64 (sa_of 10 (proposals_of own proposals set)) ≡ (r, b)
  unfolding proposals_of
  sa_offer h e = rw h e

  pub sa_reply : (transforms : Transforms) → proposals ≡ Reply transforms → put l 64 (sa_of 10 (set_reply own.ah own.esp transforms set)) ≡ (r, b) →
      put l 64 (sa_of 10 (proposals_of own proposals set)) ≡ (r, b)
  unfolding proposals_of
  sa_reply transforms h e = rw h e

proposals-few : (own : Own) (proposals : Proposals) (set : List ℕ) → length set ≤ 4096 → length (proposals_of own proposals set) ≤ 4128
unfolding proposals_of
proposals-few own Offer set h = omega (arith, offer-few own)
proposals-few own (Reply transforms) set h = omega (arith, set-size own.ah own.esp transforms set)

pub sa_fits : (own : Own) (l b : List ℕ) (r : ℕ) (proposals : Proposals) (set : List ℕ) → length set ≤ 4096 →
    put l 64 (sa_of 10 (proposals_of own proposals set)) ≡ (r, b) → r ≤ 4140
sa_fits own l b r proposals set h e =
    omega (arith, put-size l b 64 r (sa_of 10 (proposals_of own proposals set)) e, sa_size 10 (proposals_of own proposals set), proposals-few own proposals set h)

-- ---- nonce and identities

put-bytes-is : (l b : List ℕ) (i n : ℕ) (xs : List ℕ) → put l i xs ≡ (n, b) → paste l i xs ≡ b
unfolding put
put-bytes-is l b i n xs e = ap (λ (p : ℕ × List ℕ). p.1) e

pub headed-fits : (l b : List ℕ) (at next k : ℕ) (rest : List ℕ) → put l at (headed next rest) ≡ (k, b) → k ≡ 4 + length rest
headed-fits l b at next k rest e = sym (put-size l b at k (headed next rest) e) ∙ length_headed next rest

pub nonce-fits : (size n : ℕ) (array nonce : List ℕ) → n ≡ min size 256 → nonce ≡ take n array → length nonce ≤ 256
nonce-fits size n array nonce en e = omega (arith, ap length e, length-take n array)

module _ (own : Own) (l b : List ℕ) (at n k : ℕ) (nonce first second : List ℕ) (en : n ≡ min own.noncesize 256) (eo : nonce ≡ take n own.nonce) where
  pub nonce-alone : length first ≡ 0 → put l at (headed 0 nonce) ≡ (k, b) → put l at (nonce_and_identities (nonce_of own) first second) ≡ (k, b)
  unfolding nonce_and_identities nonce_of
  nonce-alone h e = rw (eq-eqb (length first) 0 h, ← en, ← eo) e

  pub nonce-with : (length first ≡ 0 → ⊥) → (i j : ℕ) (c d : List ℕ) → put l at (headed 5 nonce) ≡ (k, b) → put b (at + k) (headed 5 first) ≡ (i, c) →
      put c (at + k + i) (headed 0 second) ≡ (j, d) →
      put l at (nonce_and_identities (nonce_of own) first second) ≡ (at + k + i + j - at, d)
  unfolding nonce_and_identities nonce_of
  nonce-with h i j c d e f g =
      let two : put b (at + k) (headed 5 first ++ headed 0 second) ≡ (i + j, d) = put-after b c d (at + k) i (headed 5 first) (headed 0 second) j f g in
      rw (ne_eqb (length first) 0 h, ← en, ← eo)
      (put-after l b d at k (headed 5 nonce) (headed 5 first ++ headed 0 second) (i + j) e two ∙ ap (λ (x : ℕ). (x, d)) (omega arith))

nonces_few : (own : Own) (first second : List ℕ) → length first ≤ 4096 → length second ≤ 4096 → length (nonce_and_identities (nonce_of own) first second) ≤ 8460
unfolding nonce_and_identities
nonces_few own first second h g =
    let few : length (nonce_of own) ≤ 256 = nonce-fits own.noncesize (min own.noncesize 256) own.nonce (nonce_of own) refl (unfold nonce_of in refl) in
    by_test (eqb (length first) 0) (λ e. rw e (omega (arith, length_headed 0 (nonce_of own))))
    (λ e. rw e (omega (
      arith,
      length-append (headed 5 (nonce_of own)) (headed 5 first ++ headed 0 second),
      length-append (headed 5 first) (headed 0 second),
      length_headed 5 (nonce_of own),
      length_headed 5 first,
      length_headed 0 second,
    )))

pub nonces_fit : (own : Own) (l b : List ℕ) (at r : ℕ) (first second : List ℕ) → length first ≤ 4096 → length second ≤ 4096 →
    put l at (nonce_and_identities (nonce_of own) first second) ≡ (r, b) → r ≤ 8460
nonces_fit own l b at r first second h g e = omega (arith, put-size l b at r (nonce_and_identities (nonce_of own) first second) e, nonces_few own first second h g)

-- ---- the whole message

take_zeros : (n m : ℕ) → n ≤ m → ◌≡◌ {A = List ℕ} (take n (replicate m 0)) (replicate n 0)
take_zeros zero m h = refl
take_zeros (suc n) zero h = absurd (omega arith)
take_zeros (suc n) (suc m) h = ap (λ (l : List ℕ). 0 ∷ l) (take_zeros n m (omega arith))

pub padding-few : (n size : ℕ) → n ≡ padding size → n ≤ 15
unfolding padding
padding-few n size e = omega arith

pub around-written : (own : Own) (id size n : ℕ) (l zeros b c : List ℕ) → n ≡ padding size → zeros ≡ take n (replicate 16 0) → b ≡ paste l (28 + size) zeros →
    c ≡ paste b 0 (header own id (28 + size + n)) → around own id size l ≡ (28 + size + n, c)
unfolding around
around-written own id size n l zeros b c en ez eb ec = rw (← en, ← take_zeros n 16 (omega (arith, padding-few n size en)), ← ez, ← eb, ← ec)

around-size : (own : Own) (id size r : ℕ) (l b : List ℕ) → around own id size l ≡ (r, b) → 28 + size + padding size ≡ r
unfolding around
around-size own id size r l b e = ap (λ (p : ℕ × List ℕ). p.0) e

pub around-fits : (own : Own) (id size r : ℕ) (l b : List ℕ) → around own id size l ≡ (r, b) → r ≤ 43 + size
around-fits own id size r l b e = omega (arith, around-size own id size r l b e, padding-few (padding size) size refl)

length_header : (own : Own) (id size : ℕ) → length (header own id size) ≡ 28
unfolding header
length_header own id size =
    let tail : List ℕ = 8 ∷ 0x11 ∷ 32 ∷ 1 ∷ bytes_of 4 id ++ bytes_of 4 size in
    omega (
      arith,
      length-append (bytes_of 8 own.icookie) (bytes_of 8 own.rcookie ++ tail),
      length-append (bytes_of 8 own.rcookie) tail,
      length-append (bytes_of 4 id) (bytes_of 4 size),
      length_bytes_of 8 own.icookie,
      length_bytes_of 8 own.rcookie,
      length_bytes_of 4 id,
      length_bytes_of 4 size,
    )

pub message-around : (own : Own) (id n r : ℕ) (payloads l b c : List ℕ) → put l 28 payloads ≡ (n, b) → around own id n b ≡ (r, c) →
    put l 0 (message_of own id payloads) ≡ (r, c)
unfolding message_of padded around put
message-around own id n r payloads l b c e f =
    let en : length payloads ≡ n = ap (λ (p : ℕ × List ℕ). p.0) e in
    let eb : paste l 28 payloads ≡ b = ap (λ (p : ℕ × List ℕ). p.1) e in
    let er : 28 + n + padding n ≡ r = ap (λ (p : ℕ × List ℕ). p.0) f in
    let ec : paste (paste b (28 + n) (replicate (padding n) 0)) 0 (header own id (28 + n + padding n)) ≡ c = ap (λ (p : ℕ × List ℕ). p.1) f in
    let zeros : List ℕ = replicate (padding n) 0 in
    let long : length (payloads ++ zeros) ≡ n + padding n = length-append payloads zeros ∙ omega (arith, length-replicate {A = ℕ} (padding n) 0) in
    let whole : 28 + (n + padding n) ≡ 28 + n + padding n = omega arith in
    let body : paste l 28 (payloads ++ zeros) ≡ paste b (28 + n) zeros = sym (paste-append l 28 payloads zeros) ∙ rw (en, eb) in
    let size : length (header own id (28 + n + padding n) ++ (payloads ++ zeros)) ≡ r =
    length-append (header own id (28 + n + padding n)) (payloads ++ zeros) ∙ omega (arith, length_header own id (28 + n + padding n)) in
    let bytes : paste l 0 (header own id (28 + n + padding n) ++ (payloads ++ zeros)) ≡ c =
    sym (paste_before l 0 (header own id (28 + n + padding n)) (payloads ++ zeros)) ∙ rw (length_header own id (28 + n + padding n), body) ec in
    rw (en, long, whole, size, bytes)

pub three-written : (own : Own) (id k r : ℕ) (l b c : List ℕ) → put l 28 (headed 0 (replicate 32 0)) ≡ (k, b) → around own id 36 b ≡ (r, c) →
    put l 0 (message_three own id) ≡ (r, c)
unfolding message_three hash
three-written own id k r l b c e f =
    let ek : k ≡ 36 = headed-fits l b 28 0 k (replicate 32 0) e in
    message-around own id 36 r (headed 0 (replicate 32 0)) l b c (e ∙ ap (λ (x : ℕ). (x, b)) ek) f

pub longer-written : (own : Own) (id sa k rest r : ℕ) (proposals first second l b1 b2 b3 b4 : List ℕ) → put l 64 (sa_of 10 proposals) ≡ (sa, b1) →
    put b1 28 (headed 1 (replicate 32 0)) ≡ (k, b2) →
    put b2 (64 + sa) (nonce_and_identities (nonce_of own) first second) ≡ (rest, b3) → around own id (36 + sa + rest) b3 ≡ (r, b4) →
    put l 0 (longer own id proposals first second) ≡ (r, b4)
unfolding longer hash
longer-written own id sa k rest r proposals first second l b1 b2 b3 b4 e1 e2 e3 e4 =
    let h : List ℕ = headed 1 (replicate 32 0) in
    let ni : List ℕ = nonce_and_identities (nonce_of own) first second in
    let long : length h ≡ 36 = length_headed 1 (replicate 32 0) in
    let eb : b2 ≡ paste b1 28 h = sym (put-bytes-is b1 b2 28 k h e2) in
    let front : put l 28 (h ++ sa_of 10 proposals) ≡ (36 + sa, b2) =
    put_before l b1 b2 28 sa h (sa_of 10 proposals) (rw long e1) eb ∙ ap (λ (x : ℕ). (x + sa, b2)) long in
    let behind : put b2 (28 + (36 + sa)) ni ≡ (rest, b3) = ap (λ (x : ℕ). put b2 x ni) (omega arith) ∙ e3 in
    let all : put l 28 (h ++ (sa_of 10 proposals ++ ni)) ≡ (36 + sa + rest, b3) =
    ap (λ (x : List ℕ). put l 28 x) (sym (append_assoc h (sa_of 10 proposals) ni))
    ∙ put-after l b2 b3 28 (36 + sa) (h ++ sa_of 10 proposals) ni rest front behind in
    message-around own id (36 + sa + rest) r (h ++ (sa_of 10 proposals ++ ni)) l b3 b4 all e4

-- ---- parts that fit

module _ (set first second : List ℕ) (fit : (ltb 4096 (length set) || ltb 4096 (length first) || ltb 4096 (length second)) ≡ false) where
  fitting : (length set ≤ 4096) × (length first ≤ 4096) × (length second ≤ 4096)
  fitting =
      let ends = neither (ltb 4096 (length set) || ltb 4096 (length first)) (ltb 4096 (length second)) fit in
      let two = neither (ltb 4096 (length set)) (ltb 4096 (length first)) ends.0 in
      (ltb-false 4096 (length set) two.0, ltb-false 4096 (length first) two.1, ltb-false 4096 (length second) ends.1)

  pub fitting_set : length set ≤ 4096
  fitting_set = fitting.0

  pub fitting_first : length first ≤ 4096
  fitting_first = fitting.1

  pub fitting_second : length second ≤ 4096
  fitting_second = fitting.2

module _ (l : List ℕ) (own : Own) (id : ℕ) (proposals : Proposals) (set first second : List ℕ) where
  pub longer-refused : (ltb 4096 (length set) || ltb 4096 (length first) || ltb 4096 (length second)) ≡ true →
      longer_into l own id proposals set first second ≡ (None, l)
  unfolding longer_into too_long
  longer-refused h = rw h

  pub longer_passed : (ltb 4096 (length set) || ltb 4096 (length first) || ltb 4096 (length second)) ≡ false → (n : ℕ) (b : List ℕ) →
      put l 0 (longer own id (proposals_of own proposals set) first second) ≡ (n, b) → longer_into l own id proposals set first second ≡ (Some n, b)
  unfolding longer_into too_long
  longer_passed h n b e = rw h (ap written e)
