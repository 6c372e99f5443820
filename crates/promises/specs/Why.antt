-- Document 02, "Three": "For a readable offer and a book, print for every set and line either "suits" or the first failing condition: protocols,
-- then per proposal and transform the ID, a missing attribute, a wrong value, a surplus attribute, a lifetime out of bounds. Each printed cause
-- must be true of that transform, and a pair shows "suits" exactly when document 01 as amended says so." What a cause says is `Says` of
-- policy_truth, over lists and with no search in it; what suits is `Suits`, as the choice has it. Shut out: a cause that names an attribute that
-- is there, a later cause where an earlier one holds, and `suits` shown for half a set.
use Rattle.std.specs.Prelude.{ℕ, Option, None, Some, ◌+◌, ◌<◌, ◌≡◌, refl, ◌⊎◌, List, ◌∷◌, Bool, true, false, not, length, get_or, ltb, leb, eqb}
use Rattle.std.proofs.Math.Path.{sym}
use Rattle.std.proofs.Common.{ap, ◌∙◌, inl, inr, arith}
use borrow.Author.Tests.{eqb-true, ne_eqb, lt-ltb, ltb-true, lt-leb, leb-false, not-false}
use Rattle.wire_read.specs.Wire.{Bytes}
use Rattle.wire_read.specs.Tests.{if◌then◌otherwise◌}
use Rattle.wire_read.specs.Answer.{Answer, done, refused}
use Rattle.wire_read.proofs.Tests.{never, clash, both, by_test}
use Rattle.message_chain.specs.Message.{message}
use Rattle.message_chain.specs.Message.{Message}
use Rattle.message_chain.specs.Message as read
use Rattle.sa_fields.specs.Fields.{proposal_number, protocol, transform_count}
use Rattle.sa_proposals.specs.Proposals.{offer_code}
use Rattle.sa_proposals.proofs.Laws.{Item}
use Rattle.sa_items.specs.Items.{proposal, proposal_count, transform}
use Rattle.sa_items.proofs.Laws.{transform-lawful}
use Rattle.sa_sets.specs.Sets.{set, set_count}
use Rattle.sa_sets.proofs.Places.{set-lawful}
use Rattle.policy_book.specs.Book.{book_read}
use Rattle.policy_book.specs.Book.{Book}
use Rattle.policy_book.specs.Book as books
use Rattle.policy_suits.specs.Suits.{protocols_suit, set_suits}
use Rattle.policy_suiting.specs.Suiting.{protocol_list, Exactly, line_protocols, Suits}
use Rattle.sa_proposals.proofs.Known.{known_of}
use Rattle.policy_suiting.proofs.SuitingLaws.{suits-says, says-suits, say-protocols}
use Rattle.policy_cause.specs.Causes.{transform_cause, pair_cause}
use Rattle.policy_cause.specs.declared.Cause.{Cause}
use Rattle.policy_cause.specs.declared.PairCause.{PairCause}
use Rattle.policy_cause.specs.declared.PairCause.TheVariants as pairs
use Rattle.policy_truth.specs.Truth.{Says}
use Rattle.policy_truth.proofs.TruthLaws.{cause_says}
use Rattle.policy_choice.specs.Choice.{line_count, sa_from, message_choice, book_choice, choice, choice_answer}
use Rattle.policy_choice.specs.Choice as choices
use Rattle.policy_choice.proofs.ChoiceLaws.{sa_reads}
use Rattle.policy_why.specs.Why.{message_offer, book_offer, offered, is_place, cause_in, offer_cause, why}
use Rattle.policy_why.specs.Offer as offers
use Rattle.policy_why.specs.declared.Places.{Places}
use Rattle.policy_why.specs.Why.{Why}
use Rattle.policy_why.specs.Why.{Refused, NoSuchPlace, Protocols, Transform}
use Rattle.promises.specs.Choice.{Offer, chosen-best, fourteen_means_none, none_means_fourteen}

-- ---- "For a readable offer and a book"

module _ (book m : Bytes) where
  -- there is something to say of a lawful book and a message that reads and has an SA payload
  pub offer-readable : (o : Offer book m) → offered book m ≡ offers.Readable o.exchange o.count
  unfolding offered book_offer message_offer
  offer-readable o = rw (o.lawful, o.readable, ne_eqb (length (sa_from o.count 0 m)) 0 o.offered)

  -- of anything else the choice is refused too, by the same number
  message-refused : (number : ℕ) (c : Message) → message_offer m c ≡ offers.Refused number → message_choice book m c ≡ choices.Refused number
  unfolding message_offer message_choice
  message-refused number (read.Refused n) h = cc
  message-refused number (read.Read exchange count) h =
      by_test (eqb (length (sa_from count 0 m)) 0)
      (λ e. let same : offers.Refused 16 ≡ offers.Refused number = sym (rw e) ∙ h in rw e (cc))
      (λ e. let other : offers.Readable exchange count ≡ offers.Refused number = sym (rw e) ∙ h in never (cc))

  book-refused : (number : ℕ) (b : Book) → book_offer m b ≡ offers.Refused number → book_choice book m b ≡ choices.Refused number
  unfolding book_offer book_choice
  book-refused number (books.Refused n) h = cc
  book-refused number (books.Lawful main quick) h = message-refused number (message m) h

  pub refused_as_choice : (number : ℕ) → offered book m ≡ offers.Refused number → choice_answer (choice book m) ≡ refused number
  unfolding offered choice choice_answer
  refused_as_choice number h = rw (book-refused number (book_read book) h)

-- ---- an offer, and its places

module _ (book m : Bytes) (o : Offer book m) where
  -- the body of the SA payload
  abbrev body : Bytes
  body = sa_from o.count 0 m

  body_reads : offer_code o.exchange body ≡ 0
  body_reads = sa_reads m o.exchange o.count o.readable o.offered

  -- the set, the proposal and the transform at these places
  abbrev set_at : (at : Places) → Bytes
  set_at at = set at.set body

  abbrev proposal_at : (at : Places) → Bytes
  proposal_at at = proposal at.proposal (set_at at)

  abbrev transform_at : (at : Places) → Bytes
  transform_at at = transform at.transform (proposal_at at)

  -- each is there
  pub record AreThere (at : Places) : Type 0 where
    pub a_set : at.set < set_count body
    pub a_line : at.line < line_count o.exchange book
    pub a_proposal : at.proposal < proposal_count (set_at at)
    pub a_transform : at.transform < transform_count (proposal_at at)

  why_in : (at : Places) → why book m at ≡ cause_in o.exchange book body at
  unfolding why offer_cause
  why_in at = rw (offer-readable book m o)

  is-there : (at : Places) → is_place body at ≡ true → leb (line_count o.exchange book) at.line ≡ false → AreThere at
  unfolding is_place
  is-there at h l =
      let outer = both _ (ltb at.transform (transform_count (proposal_at at))) h in
      let inner = both (ltb at.set (set_count body)) (ltb at.proposal (proposal_count (set_at at))) outer.0 in
      record {
        a_set = ltb-true _ _ inner.0;
        a_line = leb-false _ _ l;
        a_proposal = ltb-true _ _ inner.1;
        a_transform = ltb-true _ _ outer.1;
      }

  there-is : (at : Places) → AreThere at → (is_place body at ≡ true) × (leb (line_count o.exchange book) at.line ≡ false)
  unfolding is_place
  there-is at t = (
    rw (lt-ltb _ _ t.a_set, lt-ltb _ _ t.a_proposal, lt-ltb _ _ t.a_transform),
    lt-leb _ _ t.a_line,
  )

  -- what is said at places: no such place, other protocols, or the transform's own cause
  data Said (at : Places) : (said : Why) → Type 0 where
    nowhere : (AreThere at → ⊥) → Said at NoSuchPlace
    others : AreThere at → protocols_suit o.exchange at.line book (set_at at) ≡ false → Said at Protocols
    own : AreThere at → protocols_suit o.exchange at.line book (set_at at) ≡ true →
        Said at (Transform (transform_cause o.exchange at.line book (protocol (proposal_at at)) (transform_at at)))

  said : (at : Places) → Said at (why book m at)
  unfolding cause_in
  said at =
      rw (why_in at)
      (by_test (leb (line_count o.exchange book) at.line)
      (λ l. rw l (nowhere (λ t. clash (sym (there-is at t).1 ∙ l))))
      (λ l. by_test (is_place body at)
      (λ p. by_test (protocols_suit o.exchange at.line book (set_at at))
      (λ s. rw (l, p, s) (own (is-there at p l) s))
      (λ s. rw (l, p, s) (others (is-there at p l) s)))
      (λ p. rw (l, p) (nowhere (λ t. clash (sym p ∙ (there-is at t).0))))))

  pub no_such_place : (at : Places) → why book m at ≡ NoSuchPlace → AreThere at → ⊥
  no_such_place at h = go (said at) h
    where
      go : {w : Why} → Said at w → w ≡ NoSuchPlace → AreThere at → ⊥
      go (nowhere f) e = f
      go (others t s) e = never (cc)
      go (own t s) e = never (cc)

  -- "protocols": the set's are not exactly the line's
  pub protocols_differ_lem : (at : Places) → why book m at ≡ Protocols →
      Exactly (line_protocols o.exchange at.line book) (protocol_list (set_at at)) → ⊥
  protocols_differ_lem at h = go (said at) h
    where
      go : {w : Why} → Said at w → w ≡ Protocols → Exactly (line_protocols o.exchange at.line book) (protocol_list (set_at at)) → ⊥
      go (nowhere f) e = never (cc)
      go (others t s) e = λ x. clash (sym s ∙ say-protocols o.exchange at.line book (set_at at) x)
      go (own t s) e = never (cc)

  own-true : (at : Places) → AreThere at →
      Says o.exchange at.line book (protocol (proposal_at at)) (transform_at at)
      (transform_cause o.exchange at.line book (protocol (proposal_at at)) (transform_at at))
  unfolding protocol
  own-true at t =
      let item = (set-lawful o.exchange body body_reads at.set t.a_set).lawful at.proposal t.a_proposal in
      cause_says o.exchange at.line book (protocol (proposal_at at)) (transform_at at)
      (known_of o.exchange (get_or (proposal_at at) 5 0) item.known)
      (transform-lawful o.exchange (proposal_at at) item at.transform t.a_transform)

  -- "Each printed cause must be true of that transform"
  pub cause_true : (at : Places) (cause : Option Cause) → why book m at ≡ Transform cause →
      Says o.exchange at.line book (protocol (proposal_at at)) (transform_at at) cause
  cause_true at cause h = go (said at) h
    where
      go : {w : Why} → Said at w → w ≡ Transform cause → Says o.exchange at.line book (protocol (proposal_at at)) (transform_at at) cause
      go (nowhere f) e = never (cc)
      go (others t s) e = never (cc)
      go (own t s) e =
          let same : transform_cause o.exchange at.line book (protocol (proposal_at at)) (transform_at at) ≡ cause = cc in
          rw (← same) (own-true at t)

  -- ---- pairs of a set and a line

  abbrev pair_at : (k i : ℕ) → Option PairCause
  pair_at k i = pair_cause o.exchange i book (set k body)

  -- "a pair shows "suits" exactly when document 01 as amended says so"
  module _ (k i : ℕ) (a_set : k < set_count body) where
    pub pair-suits : pair_at k i ≡ None → Suits o.exchange i book (set k body)
    unfolding pair_cause
    pair-suits h =
        by_test (set_suits o.exchange i book (set k body))
        (λ e. suits-says o.exchange i book (set k body) (set-lawful o.exchange body body_reads k a_set).lawful e)
        (λ e. by_test (protocols_suit o.exchange i book (set k body))
        (λ f. let other : Some pairs.Transforms ≡ None = sym (rw (e, f)) ∙ h in never (cc))
        (λ f. let other : Some pairs.Protocols ≡ None = sym (rw (e, f)) ∙ h in never (cc)))

    pub suits-pair : Suits o.exchange i book (set k body) → pair_at k i ≡ None
    unfolding pair_cause
    suits-pair u = rw (says-suits o.exchange i book (set k body) (set-lawful o.exchange body body_reads k a_set).lawful u)

  -- the choice is the first pair that shows it: by sets, then by lines; k and i count from 0
  pub record FirstPair : Type 0 where
    pub k : ℕ
    pub i : ℕ
    pub a_set : k < set_count body
    pub a_line : i < line_count o.exchange book
    pub shows : pair_at k i ≡ None
    pub no_set_before : (j l : ℕ) → j < k → l < line_count o.exchange book → pair_at j l ≡ None → ⊥
    pub no_line_before : (l : ℕ) → l < i → pair_at k l ≡ None → ⊥
    pub transforms : List ℕ
    pub answered : choice_answer (choice book m) ≡ done ((proposal_number (proposal 0 (set k body))).0 ∷ (i + 1) ∷ transforms)

  pub choice-first-pair : (choice book m ≡ choices.Refused 14 → ⊥) → FirstPair
  choice-first-pair d =
      let b = chosen-best book m o d in
      record {
        k = b.k;
        i = b.i;
        a_set = b.a_set;
        a_line = b.a_line;
        shows = suits-pair b.k b.i b.a_set b.suits;
        no_set_before = λ j l below a h. b.first-set j l below a (pair-suits j l (omega (arith, b.a_set)) h);
        no_line_before = λ l below h. b.first-line l below (pair-suits b.k l b.a_set h);
        transforms = b.transforms;
        answered = b.answered;
      }

  -- and 14 exactly where none does
  pub fourteen_no_pair : choice book m ≡ choices.Refused 14 → (k i : ℕ) → k < set_count body → i < line_count o.exchange book → pair_at k i ≡ None → ⊥
  fourteen_no_pair e k i a b h = fourteen_means_none book m o e k i a b (pair-suits k i a h)

  pub no_pair_fourteen : ((k i : ℕ) → k < set_count body → i < line_count o.exchange book → pair_at k i ≡ None → ⊥) → choice book m ≡ choices.Refused 14
  no_pair_fourteen f = none_means_fourteen book m o (λ k i a b u. f k i a b (suits-pair k i a u))
