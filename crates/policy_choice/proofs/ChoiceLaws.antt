-- The SA payload of a message that reads, and what was chosen in it: the number of the chosen set finds the set.
use Prim.Native.Nat.{ℕ, zero, suc, ◌+◌, ◌-◌, ◌≤◌, ◌<◌}
use mathlib.Core.Path.{◌≡◌, refl, sym, ap, ◌∙◌}
use mathlib.Core.List.{List}
use native.Mathlib.Omega.{arith}
use lib.ListN.{length, take, drop}
use lib.Seq.{take-length}
use lib.Dec.{eqb}
use borrow.Author.Tests.{eqb-true, eqb-false}
use Rattle.wire_read.specs.Wire.{number_at}
use Rattle.wire_read.proofs.Tests.{never, by_test}
use Rattle.wire_read.proofs.Laws.{number-drop, take_within, drop-within}
use Rattle.sa_proposals.specs.Proposals.{offer_code}
use Rattle.sa_fields.specs.Fields.{proposal_number}
use Rattle.sa_sets.specs.Sets.{set, set_count, set_numbered}
use Rattle.sa_items.specs.Items.{proposal, transform_numbered}
use Rattle.sa_fields.specs.declared.ProposalNumber.{ProposalNumber}
use Rattle.sa_proposals.proofs.Laws.{Item}
use Rattle.sa_items.proofs.Laws.{transform-by-number}
use Rattle.sa_sets.proofs.Places.{LawfulSet, set-lawful, set-by-number}
use Rattle.message_header.specs.Header.{exchange_of, first_payload}
use Rattle.message_payload.specs.Payloads.{body_of}
use Rattle.message_chain.specs.Message.{message, nth, walk, payload_at}
use Rattle.message_chain.specs.declared.Payload.{Payload}
use Rattle.message_chain.specs.Message as read
use Rattle.message_chain.proofs.Laws.{reading-found, read_as}
use Rattle.policy_lines.specs.Lines.{line_at}
use Rattle.policy_lines.specs.declared.LineNumber.{LineNumber}
use Rattle.policy_suits.specs.Suits.{lowest}
use Rattle.policy_suiting.proofs.Laws.{Passes, Passed, suits_passed}
use Rattle.policy_suiting.proofs.SuitLaws.{chosen_in, taken}
use Rattle.policy_book.specs.Book.{book_read}
use Rattle.policy_book.specs.Book.{Book}
use Rattle.policy_book.specs.Book as books
use Rattle.policy_choice.specs.Choice.{Choice}
use Rattle.policy_choice.specs.Choice.{Refused, Chosen}
use Rattle.policy_choice.specs.declared.Transforms.{Transforms}
use Rattle.policy_choice.specs.Choice.{number_of, lowest_number, transforms_of, chosen, choose_from, line_count, body_at, sa_from, message_choice, book_choice, choice}
use Rattle.policy_choice.proofs.Laws.{Choosing, fourteen, chose, choosing}

-- ---- a payload's body lies within its message

pub body-within : (k : ℕ) (m : List ℕ) → length (body_at k m) ≤ length m
unfolding body_at
body-within k m =
    omega (
      arith,
      drop-within 4 (take (payload_at k m).length (drop (payload_at k m).start m)),
      take_within (payload_at k m).length (drop (payload_at k m).start m),
      drop-within (payload_at k m).start m,
    )

-- ---- the SA payload of a message that reads

module _ (m : List ℕ) where
  -- the payload that it is
  pub record Place (n k : ℕ) : Type 0 where
    pub j : ℕ
    pub below : j < k + n
    pub payloadtype : (payload_at j m).payloadtype ≡ 1
    pub body : sa_from n k m ≡ body_at j m

  sa_place : (n k : ℕ) → (length (sa_from n k m) ≡ 0 → ⊥) → Place n k
  unfolding sa_from
  sa_place zero k some = absurd (some refl)
  sa_place (suc n) k some =
      by_test (eqb (payload_at k m).payloadtype 1)
      (λ e. record { j = k; below = omega arith; payloadtype = eqb-true _ _ e; body = rw e })
      (λ e.
      let r = sa_place n (k + 1) (λ z. some (rw e z)) in
      record { j = r.j; below = omega (arith, r.below); payloadtype = r.payloadtype; body = rw e r.body })

  -- once it is found, more payloads to look through change nothing
  sa_more : (n d k : ℕ) → (length (sa_from n k m) ≡ 0 → ⊥) → sa_from (n + d) k m ≡ sa_from n k m
  unfolding sa_from
  sa_more zero d k some = absurd (some refl)
  sa_more (suc n) d k some =
      let up : suc n + d ≡ suc (n + d) = omega arith in
      rw up (by_test (eqb (payload_at k m).payloadtype 1) (λ e. rw e) (λ e. rw e (sa_more n d (k + 1) (λ z. some (rw e z)))))

  module _ (exchange count : ℕ) (readable : message m ≡ read.Read exchange count) where
    -- the body of every SA payload reads
    pub body_reads : (j : ℕ) → j < count → (payload_at j m).payloadtype ≡ 1 → offer_code exchange (body_at j m) ≡ 0
    unfolding body_at payload_at body_of
    body_reads j within offers =
        let r = read_as m exchange count readable in
        let f = (reading-found m r.found r.is).0 in
        let below : j < length r.found = omega (arith, r.same_count) in
        let walked = f.walked j below in
        let payloadtype : (nth r.found j).payloadtype ≡ 1 = ap (λ (x : Payload). x.payloadtype) (sym walked) ∙ offers in
        let s : List ℕ = drop (nth r.found j).start m in
        let body : body_at j m ≡ drop 4 (take (number_at 2 s 2) s) = rw (walked, f.measured j below) in
        ap (λ (x : ℕ). offer_code x (body_at j m)) (sym r.same-exchange) ∙ ap (offer_code (exchange_of m)) body ∙ f.offers j below payloadtype

  module _ (exchange count : ℕ) (readable : message m ≡ read.Read exchange count) (some : length (sa_from count 0 m) ≡ 0 → ⊥) where
    pub sa_reads : offer_code exchange (sa_from count 0 m) ≡ 0
    sa_reads = let p = sa_place count 0 some in rw p.body (body_reads exchange count readable p.j (omega (arith, p.below)) p.payloadtype)

    -- "a message has at most 32 payloads"
    pub sa_same : sa_from 32 0 m ≡ sa_from count 0 m
    sa_same =
        let r = read_as m exchange count readable in
        let f = (reading-found m r.found r.is).0 in
        let up : 32 ≡ count + (32 - count) = omega (arith, f.few, r.same_count) in
        ap (λ (n : ℕ). sa_from n 0 m) up ∙ sa_more count (32 - count) 0 some

-- the SA payload at the front of a message
pub sa_in_front : (m : List ℕ) → first_payload m ≡ 1 → number_at 2 (drop 28 m) 2 ≡ length (drop 28 m) → sa_from 1 0 m ≡ drop 4 (drop 28 m)
unfolding sa_from body_at payload_at walk
sa_in_front m first lies =
    let size : number_at 2 m 30 ≡ length (drop 28 m) = sym (number-drop 2 28 m 2) ∙ lies in
    rw (first, size) (ap (drop 4) (take-length (drop 28 m)))

-- ---- a choice

-- the number that names the lowest transform finds it
pub taken-by-number : (exchange i : ℕ) (book p : List ℕ) → Item exchange p → Passes exchange i book p →
    transform_numbered (lowest_number exchange i book p) p ≡ chosen_in exchange i book p
unfolding number_of
taken-by-number exchange i book p item some =
    transform-by-number exchange p item (lowest exchange i book p - 1) (taken exchange i book p item some).0

-- what was chosen in a message that reads: set k and line i, counted from 0; the number of the set finds it
pub record Chose (exchange count : ℕ) (book m : List ℕ) (number : ProposalNumber) (line : LineNumber) (transforms : Transforms) : Type 0 where
  pub k : ℕ
  pub i : ℕ
  pub reads : offer_code exchange (sa_from count 0 m) ≡ 0
  pub a_set : k < set_count (sa_from count 0 m)
  pub a_line : i < line_count exchange book
  pub suits : Passed exchange i book (set k (sa_from count 0 m))
  pub lawful : LawfulSet exchange (set k (sa_from count 0 m))
  pub its_number : proposal_number (proposal 0 (set k (sa_from count 0 m))) ≡ number
  pub same_sa : sa_from 32 0 m ≡ sa_from count 0 m
  pub by_number : set_numbered number (sa_from 32 0 m) ≡ set k (sa_from count 0 m)
  pub its_line : line.0 ≡ i + 1
  pub taken : transforms ≡ transforms_of exchange i book (set k (sa_from count 0 m))

module _ (exchange count : ℕ) (book m : List ℕ) (readable : message m ≡ read.Read exchange count) (number : ProposalNumber) (line : LineNumber)
    (transforms : Transforms) where
  from_book : (b : Book) → book_choice book m b ≡ Chosen number line transforms → message_choice book m (read.Read exchange count) ≡ Chosen number line transforms
  unfolding book_choice
  from_book (books.Refused n) e = never (cc)
  from_book (books.Lawful main quick) e = rw readable at e

  from_message : message_choice book m (read.Read exchange count) ≡ Chosen number line transforms →
      (length (sa_from count 0 m) ≡ 0 → ⊥) × (choose_from exchange book (sa_from count 0 m) ≡ Chosen number line transforms)
  unfolding message_choice
  from_message e =
      by_test (eqb (length (sa_from count 0 m)) 0)
      (λ z. let bad : Refused 16 ≡ Chosen number line transforms = (rw z at e) in never (cc))
      (λ z. (eqb-false _ _ z, rw z at e))

  module _ (some : length (sa_from count 0 m) ≡ 0 → ⊥) where
    from_sets : {n : ℕ} {r : Choice} → Choosing exchange book (sa_from count 0 m) n 0 r → n ≡ set_count (sa_from count 0 m) →
        r ≡ Chosen number line transforms → Chose exchange count book m number line transforms
    unfolding chosen
    from_sets (fourteen f) q e = never (cc)
    from_sets (chose j i h l b t f g) q e =
        let body : List ℕ = sa_from count 0 m in
        let reads = sa_reads m exchange count readable some in
        let a_set : j < set_count body = omega arith in
        let same : proposal_number (proposal 0 (set j body)) ≡ number = cc in
        let same_line : line_at i ≡ line = cc in
        let place : i + 1 - 1 ≡ i = omega arith in
        let taken : transforms_of exchange (i + 1 - 1) book (set j body) ≡ transforms = cc in
        record {
          k = j;
          i = i;
          reads = reads;
          a_set = a_set;
          a_line = b;
          suits = suits_passed exchange i book (set j body) t;
          lawful = set-lawful exchange body reads j a_set;
          its_number = same;
          same_sa = sa_same m exchange count readable some;
          by_number = rw (sa_same m exchange count readable some, ← same) (set-by-number exchange body reads j a_set);
          its_line = ap (λ (n : LineNumber). n.0) (sym same_line);
          taken = sym taken ∙ ap (λ (n : ℕ). transforms_of exchange n book (set j body)) place;
        }

  pub chose_says : choice book m ≡ Chosen number line transforms → Chose exchange count book m number line transforms
  unfolding choice
  chose_says e =
      let c = from_message (from_book (book_read book) e) in
      from_sets c.0 (choosing exchange book (sa_from count 0 m)) refl c.1
