-- Demand 2, the choice: "'No proposal chosen' answers a readable offer exactly when no offered set suits any policy line", and what is chosen
-- is the first set, the first line that it suits, and the lowest transform in each proposal. "Suits" is the record Suits of policy_suiting, which
-- says document 01's sentence over lists and with no search in it. Shut out: the core that always answers 14, and the one that takes a set's
-- proposals as alternatives.
use Rattle.std.specs.Prelude.{ℕ, zero, suc, ◌+◌, ◌-◌, ◌<◌, ◌≡◌, refl, List, [], ◌∷◌, true, length, get_or, eqb}
use Rattle.std.proofs.Common.{sym, ◌∙◌, ⊎_elim}
use Rattle.std.proofs.Math.Path.{ap}
use native.Mathlib.Omega.{arith}
use borrow.Author.Tests.{eq-eqb, ne_eqb}
use Rattle.wire_read.specs.Wire.{Bytes}
use Rattle.wire_read.specs.Tests.{if◌then◌otherwise◌}
use Rattle.wire_read.specs.Answer.{Answer, done, refused}
use Rattle.wire_read.proofs.Tests.{never, by_test}
use Rattle.message_chain.specs.Message.{message, message_answer}
use Rattle.message_chain.specs.Message as read
use Rattle.sa_fields.specs.Fields.{proposal_number}
use Rattle.sa_proposals.specs.Proposals.{offer_code}
use Rattle.sa_sets.specs.Sets.{set, set_count}
use Rattle.sa_sets.proofs.Places.{set-lawful}
use Rattle.sa_items.specs.Items.{proposal, proposal_count}
use Rattle.policy_lines.specs.Lines.{line_at}
use Rattle.policy_book.specs.Book.{book_read, book_answer}
use Rattle.policy_suits.specs.Suits.{lowest, set_suits}
use Rattle.policy_suiting.specs.Suiting.{Suits, LowestSuiting}
use Rattle.policy_choice.specs.Choice.{line_count, number_of, transforms_of, chosen, choose_from, sa_from, message_choice, book_choice, choice, choice_answer, NoneSuits}
use Rattle.policy_reply.specs.Reply.{reply_answer}
use Rattle.policy_book.specs.Book.{Book}
use Rattle.policy_book.specs.Book as books
use Rattle.policy_choice.specs.declared.Transforms.TheVariants.{One, Two}
use Rattle.policy_choice.specs.Choice.{Choice}
use Rattle.policy_choice.specs.Choice.{Refused, Chosen}
use Rattle.policy_reply.specs.Reply.{Outcome}
use Rattle.policy_reply.specs.Reply as replies
use Rattle.promises.specs.SequenceAnswers.{parts}
use Rattle.promises.specs.Payloads as payloads
use Rattle.policy_suiting.proofs.Laws.{suits_passed}
use Rattle.policy_suiting.proofs.SuitLaws.{shape}
use Rattle.policy_suiting.proofs.SuitingLaws.{suits-says, lowest-says}
use Rattle.policy_choice.proofs.Laws.{Choosing, fourteen, chose, no_suit, fourteen_none, none_fourteen, choosing}
use Rattle.policy_choice.proofs.ChoiceLaws.{sa_reads}

-- a lawful book, and a message that reads and has an SA payload
pub record Offer (book m : Bytes) : Type 0 where
  pub main : ℕ
  pub quick : ℕ
  pub exchange : ℕ
  pub count : ℕ
  pub lawful : book_read book ≡ books.Lawful main quick
  pub readable : message m ≡ read.Read exchange count
  pub offered : length (sa_from count 0 m) ≡ 0 → ⊥

-- "lowest transform in each proposal" of the set s: one number for each
pub record Lowest (exchange i : ℕ) (book s : Bytes) (numbers : List ℕ) : Type 0 where
  pub one_each : length numbers ≡ proposal_count s
  pub lowest-transform : (j : ℕ) → j < proposal_count s → LowestSuiting exchange i book (proposal j s) (get_or numbers j 0)

-- a choice: set k and line i, counted from 0; answered are the set's number, the line counted from 1, and the transforms' numbers
pub record Best (exchange : ℕ) (book body : Bytes) (r : Choice) : Type 0 where
  pub k : ℕ
  pub i : ℕ
  pub transforms : List ℕ
  pub a_set : k < set_count body
  pub a_line : i < line_count exchange book
  pub suits : Suits exchange i book (set k body)
  pub first-set : (j l : ℕ) → j < k → l < line_count exchange book → Suits exchange l book (set j body) → ⊥
  pub first-line : (l : ℕ) → l < i → Suits exchange l book (set k body) → ⊥
  pub lowest-transforms : Lowest exchange i book (set k body) transforms
  pub answered : choice_answer r ≡ done ((proposal_number (proposal 0 (set k body))).0 ∷ (i + 1) ∷ transforms)

-- ---- proofs

module _ (exchange : ℕ) (book body : Bytes) (reads : offer_code exchange body ≡ 0) where
  -- the numbers that are answered for a set that suits line i
  module _ (k i : ℕ) (a : k < set_count body) (passes : set_suits exchange i book (set k body) ≡ true) where
    abbrev number : (j : ℕ) → ℕ
    number j = (number_of (lowest exchange i book (proposal j (set k body))) (proposal j (set k body))).0

    is-lowest : (j : ℕ) → j < proposal_count (set k body) → LowestSuiting exchange i book (proposal j (set k body)) (number j)
    unfolding number_of
    is-lowest j l =
        lowest-says exchange i book (proposal j (set k body)) ((set-lawful exchange body reads k a).lawful j l)
        ((suits_passed exchange i book (set k body) passes).each j l)

    in_one : proposal_count (set k body) ≡ 1 → Lowest exchange i book (set k body) (number 0 ∷ [])
    in_one one = record { one_each = sym one; lowest-transform = go }
      where
        go : (j : ℕ) → j < proposal_count (set k body) → LowestSuiting exchange i book (proposal j (set k body)) (get_or (number 0 ∷ []) j 0)
        go zero l = is-lowest 0 l
        go (suc j) l = absurd (omega arith)

    in_two : proposal_count (set k body) ≡ 2 → Lowest exchange i book (set k body) (number 0 ∷ number 1 ∷ [])
    in_two two = record { one_each = sym two; lowest-transform = go }
      where
        go : (j : ℕ) → j < proposal_count (set k body) → LowestSuiting exchange i book (proposal j (set k body)) (get_or (number 0 ∷ number 1 ∷ []) j 0)
        go zero l = is-lowest 0 l
        go (suc zero) l = is-lowest 1 l
        go (suc (suc j)) l = absurd (omega arith)

    abbrev numbers : List ℕ
    numbers = if eqb (proposal_count (set k body)) 1 then number 0 ∷ [] otherwise number 0 ∷ number 1 ∷ []

    lowest_in_each : Lowest exchange i book (set k body) numbers
    lowest_in_each =
        ⊎_elim
        (λ one. rw (eq-eqb (proposal_count (set k body)) 1 one) (in_one one))
        (λ pair. rw (ne_eqb (proposal_count (set k body)) 1 (λ e. omega (arith, pair.two))) (in_two pair.two))
        (shape (set k body) exchange i book (suits_passed exchange i book (set k body) passes).protocols)

    answers : choice_answer (chosen exchange (line_at i) book (set k body)) ≡ done ((proposal_number (proposal 0 (set k body))).0 ∷ (i + 1) ∷ numbers)
    unfolding choice_answer chosen transforms_of
    answers =
        let place : i + 1 - 1 ≡ i = omega arith in
        rw place (by_test (eqb (proposal_count (set k body)) 1) (λ e. rw e) (λ e. rw e))

  best : {n : ℕ} {r : Choice} → Choosing exchange book body n 0 r → n ≡ set_count body → (r ≡ Refused 14 → ⊥) → Best exchange book body r
  best (fourteen f) q d = absurd (d refl)
  best (chose j i h l b t f g) q d =
      let a : j < set_count body = omega arith in
      record {
        k = j;
        i = i;
        transforms = numbers j i a t;
        a_set = a;
        a_line = b;
        suits = suits-says exchange i book (set j body) (set-lawful exchange body reads j a).lawful t;
        first-set = λ x c m v. no_suit exchange book body reads x c (omega arith) (f x (omega arith) m c v);
        first-line = λ c m. no_suit exchange book body reads j c a (g c m);
        lowest-transforms = lowest_in_each j i a t;
        answered = answers j i a t;
      }

module _ (book m : Bytes) (o : Offer book m) where
  -- the body of the SA payload
  abbrev body : Bytes
  body = sa_from o.count 0 m

  body_reads : offer_code o.exchange body ≡ 0
  body_reads = sa_reads m o.exchange o.count o.readable o.offered

  pub choice-is : choice book m ≡ choose_from o.exchange book body
  unfolding choice book_choice message_choice
  choice-is = rw (o.lawful, o.readable, ne_eqb (length body) 0 o.offered)

  pub fourteen_means_none : choice book m ≡ Refused 14 → NoneSuits o.exchange book body
  fourteen_means_none e = fourteen_none o.exchange book body body_reads (sym choice-is ∙ e)

  pub none_means_fourteen : NoneSuits o.exchange book body → choice book m ≡ Refused 14
  none_means_fourteen f = choice-is ∙ none_fourteen o.exchange book body body_reads f

  pub chosen-best : (choice book m ≡ Refused 14 → ⊥) → Best o.exchange book body (choice book m)
  chosen-best d = rw choice-is (best o.exchange book body body_reads (choosing o.exchange book body) refl (λ e. d (choice-is ∙ e)))

-- ---- no two choices have the same number and values

abbrev value-at : (a : Answer) (n : ℕ) → ℕ
value-at a n = get_or a.values n 0

abbrev meant : (a : Answer) → Choice
meant a =
    if eqb (length a.values) 0 then Refused a.number
    otherwise if eqb (length a.values) 3 then Chosen (record { 0 = value-at a 0 }) (record { 0 = value-at a 1 }) (One (record { 0 = value-at a 2 }))
    otherwise Chosen (record { 0 = value-at a 0 }) (record { 0 = value-at a 1 }) (Two (record { 0 = value-at a 2 }) (record { 0 = value-at a 3 }))

meant-answer : (c : Choice) → meant (choice_answer c) ≡ c
unfolding choice_answer
meant-answer (Refused number) = refl
meant-answer (Chosen number line (One t)) = refl
meant-answer (Chosen number line (Two t u)) = refl

pub answer-own : (x y : Choice) → choice_answer x ≡ choice_answer y → x ≡ y
answer-own x y h = sym (meant-answer x) ∙ ap meant h ∙ meant-answer y

-- ---- nor two books, nor two replies

pub book-own : (x y : Book) → book_answer x ≡ book_answer y → x ≡ y
unfolding book_answer
book-own (books.Lawful main quick) (books.Lawful main' quick') h = let e = parts _ _ h in cc
book-own (books.Lawful main quick) (books.Refused m) h = let e = parts _ _ h in never (cc)
book-own (books.Refused n) (books.Lawful main' quick') h = let e = parts _ _ h in never (cc)
book-own (books.Refused n) (books.Refused m) h = let e = parts _ _ h in cc

pub reply_own : (x y : Outcome) → reply_answer x ≡ reply_answer y → x ≡ y
unfolding reply_answer
reply_own (replies.Written n) (replies.Written m) h = let e = parts _ _ h in cc
reply_own (replies.Written n) (replies.Refused m) h = let e = parts _ _ h in never (cc)
reply_own (replies.Refused n) (replies.Written m) h = let e = parts _ _ h in never (cc)
reply_own (replies.Refused n) (replies.Refused m) h = let e = parts _ _ h in cc

-- ---- the choice by the paper's numbers and values alone

module _ (book m : Bytes) (main quick exchange count : ℕ) (lawful : book_answer (book_read book) ≡ done (main ∷ quick ∷ []))
    (readable : message_answer (message m) ≡ done (exchange ∷ count ∷ [])) (offered : length (sa_from count 0 m) ≡ 0 → ⊥) where
  pub offer : Offer book m
  unfolding book_answer message_answer
  offer = record {
    main = main;
    quick = quick;
    exchange = exchange;
    count = count;
    lawful = book-own (book_read book) (books.Lawful main quick) lawful;
    readable = payloads.answer-own (message m) (read.Read exchange count) readable;
    offered = offered;
  }

  pub answers_fourteen : choice_answer (choice book m) ≡ refused 14 → NoneSuits exchange book (sa_from count 0 m)
  unfolding choice_answer offer
  answers_fourteen e = fourteen_means_none book m offer (answer-own (choice book m) (Refused 14) e)

  pub fourteen_answered : NoneSuits exchange book (sa_from count 0 m) → choice_answer (choice book m) ≡ refused 14
  unfolding choice_answer offer
  fourteen_answered f = ap choice_answer (none_means_fourteen book m offer f)

  pub best-answered : (choice_answer (choice book m) ≡ refused 14 → ⊥) → Best exchange book (sa_from count 0 m) (choice book m)
  unfolding choice_answer offer
  best-answered d = chosen-best book m offer (λ e. d (ap choice_answer e))
