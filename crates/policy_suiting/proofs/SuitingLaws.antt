-- The tests of Suits.antt pass where and only where Suiting.antt says that a set suits; of a set that reads.
use Prim.Native.Nat.{ℕ, ◌+◌, ◌-◌, ◌≤◌, ◌<◌}
use mathlib.Core.Path.{◌≡◌, refl, sym, ap, ◌∙◌}
use mathlib.Core.Logic.{◌⊎◌, inl, inr, ⊎_elim}
use mathlib.Core.List.{List, [], ◌∷◌}
use mathlib.Core.Bool.{true, ◌||◌, ◌&&◌}
use native.Mathlib.Omega.{arith}
use lib.ListN.{length, get_or}
use lib.Dec.{ltb, eqb}
use borrow.Author.Tests.{eqb-true, eqb-false, eq-eqb, leb-true, ltb-true, ltb-false}
use Rattle.wire_read.proofs.Tests.{clash, both, by_test}
use Rattle.policy_lines.specs.Lines.{quick_protocols}
use Rattle.sa_fields.specs.Fields.{protocol, transform_count, transform_number}
use Rattle.sa_transforms.proofs.Laws.{LawfulTransform}
use Rattle.sa_proposals.proofs.Laws.{Item}
use Rattle.sa_items.specs.Items.{first_item, after_item, proposal, proposal_count, transform}
use Rattle.sa_items.proofs.Laws.{transform-lawful, numbers-rise}
use Rattle.policy_suits.specs.Suits.{suits_line, transform_suits, lowest, protocols_alone, protocols_both, protocols_suit, set_suits}
use Rattle.policy_suiting.specs.Suiting.{protocol_list, at_front, behind, Exactly, nothing, one_more, TransformSuits, main, quick, line_protocols, Suits, LowestSuiting}
use Rattle.policy_suiting.proofs.Laws.{First, none, here, lowest-is, Passes, transform_low, suits_passed, passed_suits}
use Rattle.policy_suiting.proofs.Exactly.{listed-count, listed_at, exactly_length}
use Rattle.policy_suiting.proofs.TransformLaws.{main-says, says-main, quick-says, says-quick}
use Rattle.sa_proposals.proofs.Known.{Known, isakmp, ah-of, esp-of, known_of}

-- ---- transforms

module _ (i : ℕ) (book p : List ℕ) (k : ℕ) where
  known-says : {exchange wanted : ℕ} → Known exchange wanted → LawfulTransform exchange (transform k p) → transform_suits exchange i book p k ≡ true →
      TransformSuits exchange i book (protocol p) (transform k p)
  unfolding transform_suits suits_line
  known-says isakmp lawful h = main refl (main-says (transform k p) lawful _ h)
  known-says ah-of lawful h = quick (λ e. omega arith) (quick-says (transform k p) lawful _ _ _ _ h)
  known-says esp-of lawful h = quick (λ e. omega arith) (quick-says (transform k p) lawful _ _ _ _ h)

  says-known : {exchange wanted : ℕ} → Known exchange wanted → LawfulTransform exchange (transform k p) →
      TransformSuits exchange i book (protocol p) (transform k p) → transform_suits exchange i book p k ≡ true
  unfolding transform_suits suits_line
  says-known isakmp lawful (main e m) = says-main (transform k p) lawful _ m
  says-known isakmp lawful (quick e m) = absurd (e refl)
  says-known ah-of lawful (main e m) = absurd (omega arith)
  says-known ah-of lawful (quick e m) = says-quick (transform k p) lawful _ _ _ _ m
  says-known esp-of lawful (main e m) = absurd (omega arith)
  says-known esp-of lawful (quick e m) = says-quick (transform k p) lawful _ _ _ _ m

-- of a proposal that reads
module _ (exchange i : ℕ) (book p : List ℕ) (item : Item exchange p) (k : ℕ) (l : k < transform_count p) where
  transform-says : transform_suits exchange i book p k ≡ true → TransformSuits exchange i book (protocol p) (transform k p)
  transform-says h = known-says i book p k (known_of exchange (get_or p 5 0) item.known) (transform-lawful exchange p item k l) h

  says-transform : TransformSuits exchange i book (protocol p) (transform k p) → transform_suits exchange i book p k ≡ true
  says-transform u = says-known i book p k (known_of exchange (get_or p 5 0) item.known) (transform-lawful exchange p item k l) u

-- the first that passes is the lowest by number, because numbers rise
module _ (exchange i : ℕ) (book p : List ℕ) (item : Item exchange p) where
  low_says : {r : ℕ} → First (transform_suits exchange i book p) (transform_count p) 0 r → 1 ≤ r →
      LowestSuiting exchange i book p (transform_number (transform (r - 1) p)).0
  low_says (none f) h = absurd (omega arith)
  low_says (here k a b t f) h =
      let place : k + 1 - 1 ≡ k = omega arith in
      rw place (record {
        k = k;
        a_transform = omega arith;
        its_number = refl;
        suits = transform-says exchange i book p item k (omega arith) t;
        no_lower = λ j l m u.
            let number : ℕ → ℕ = λ n. (transform_number (transform n p)).0 in
            let before : j < k = by_test (ltb j k) (λ w. ltb-true j k w) (λ w. by_test (eqb j k)
            (λ e. absurd (omega (arith, ap number (eqb-true j k e))))
            (λ e. absurd (omega (arith, numbers-rise exchange p item k j (omega (arith, ltb-false j k w, eqb-false j k e)) l)))) in
            clash (sym (f j (omega arith) before) ∙ says-transform exchange i book p item j l u);
      })

  pub lowest-says : Passes exchange i book p → LowestSuiting exchange i book p (transform_number (transform (lowest exchange i book p - 1) p)).0
  lowest-says some = low_says (lowest-is exchange i book p) (leb-true 1 (lowest exchange i book p) (transform_low exchange i book p some))

-- ---- protocols

one-listed : (l : List ℕ) → length l ≡ 1 → l ≡ get_or l 0 0 ∷ []
one-listed [] h = absurd (omega arith)
one-listed (a ∷ []) h = refl
one-listed (a ∷ b ∷ l) h = absurd (omega arith)

two-listed : (l : List ℕ) → length l ≡ 2 → l ≡ get_or l 0 0 ∷ get_or l 1 0 ∷ []
two-listed [] h = absurd (omega arith)
two-listed (a ∷ []) h = absurd (omega arith)
two-listed (a ∷ b ∷ []) h = refl
two-listed (a ∷ b ∷ c ∷ l) h = absurd (omega arith)

exactly_one : {w a : ℕ} → Exactly (w ∷ []) (a ∷ []) → a ≡ w
exactly_one (one_more nothing at_front) = refl

exactly_two : {v w a b : ℕ} → Exactly (v ∷ w ∷ []) (a ∷ b ∷ []) → ((a ≡ v) × (b ≡ w)) ⊎ ((a ≡ w) × (b ≡ v))
exactly_two (one_more (one_more nothing at_front) at_front) = inl (refl, refl)
exactly_two (one_more (one_more nothing at_front) (behind at_front)) = inr (refl, refl)

module _ (set : List ℕ) where
  count-protocols : length (protocol_list set) ≡ proposal_count set
  unfolding protocol_list proposal_count
  count-protocols = listed-count (λ s. protocol (first_item s)) after_item 16 set

  protocol-at : (j : ℕ) → j < proposal_count set → get_or (protocol_list set) j 0 ≡ protocol (proposal j set)
  unfolding protocol_list proposal_count proposal
  protocol-at j h = listed_at (λ s. protocol (first_item s)) after_item 16 set j 0 h

  one-protocol : proposal_count set ≡ 1 → protocol_list set ≡ protocol (proposal 0 set) ∷ []
  one-protocol e = one-listed (protocol_list set) (count-protocols ∙ e) ∙ rw (protocol-at 0 (omega arith))

  two-protocols : proposal_count set ≡ 2 → protocol_list set ≡ protocol (proposal 0 set) ∷ protocol (proposal 1 set) ∷ []
  two-protocols e = two-listed (protocol_list set) (count-protocols ∙ e) ∙ rw (protocol-at 0 (omega arith), protocol-at 1 (omega arith))

  alone-says : (wanted : ℕ) → protocols_alone wanted set ≡ true → Exactly (wanted ∷ []) (protocol_list set)
  unfolding protocols_alone
  alone-says wanted h =
      let two = both (eqb (proposal_count set) 1) (eqb (protocol (proposal 0 set)) wanted) h in
      rw (one-protocol (eqb-true _ _ two.0), eqb-true (protocol (proposal 0 set)) wanted two.1) (one_more nothing at_front)

  says-alone : (wanted : ℕ) → Exactly (wanted ∷ []) (protocol_list set) → protocols_alone wanted set ≡ true
  unfolding protocols_alone
  says-alone wanted exactly =
      let alone : proposal_count set ≡ 1 = sym count-protocols ∙ exactly_length exactly in
      rw (eq-eqb (proposal_count set) 1 alone) (eq-eqb _ _ (exactly_one (rw (one-protocol alone) at exactly)))

  both-says : protocols_both set ≡ true → Exactly (2 ∷ 3 ∷ []) (protocol_list set)
  unfolding protocols_both
  both-says h =
      let a : ℕ = protocol (proposal 0 set) in
      let b : ℕ = protocol (proposal 1 set) in
      let outer = both (eqb (proposal_count set) 2) (eqb a 2 && eqb b 3 || eqb a 3 && eqb b 2) h in
      rw (two-protocols (eqb-true _ _ outer.0))
      (by_test (eqb a 2 && eqb b 3)
      (λ e. let two = both (eqb a 2) (eqb b 3) e in rw (eqb-true a 2 two.0, eqb-true b 3 two.1) (one_more (one_more nothing at_front) at_front))
      (λ e.
      let two = both (eqb a 3) (eqb b 2) (rw e at outer).1 in
      rw (eqb-true a 3 two.0, eqb-true b 2 two.1) (one_more (one_more nothing at_front) (behind at_front))))

  says_both : Exactly (2 ∷ 3 ∷ []) (protocol_list set) → protocols_both set ≡ true
  unfolding protocols_both
  says_both exactly =
      let pair : proposal_count set ≡ 2 = sym count-protocols ∙ exactly_length exactly in
      rw (eq-eqb (proposal_count set) 2 pair)
      (⊎_elim (λ e. rw (e.0, e.1)) (λ e. rw (e.0, e.1)) (exactly_two (rw (two-protocols pair) at exactly)))

module _ (exchange i : ℕ) (book set : List ℕ) where
  protocols-say : protocols_suit exchange i book set ≡ true → Exactly (line_protocols exchange i book) (protocol_list set)
  unfolding protocols_suit line_protocols
  protocols-say h =
      by_test (eqb exchange 2) (λ e. rw e (alone-says set 1 (rw e at h)))
      (λ e. by_test (eqb (quick_protocols i book) 1) (λ f. rw (e, f) (alone-says set 3 (rw (e, f) at h))) (λ f. rw (e, f) (both-says set (rw (e, f) at h))))

  pub say-protocols : Exactly (line_protocols exchange i book) (protocol_list set) → protocols_suit exchange i book set ≡ true
  unfolding protocols_suit line_protocols
  say-protocols h =
      by_test (eqb exchange 2) (λ e. rw e (says-alone set 1 (rw e at h)))
      (λ e. by_test (eqb (quick_protocols i book) 1) (λ f. rw (e, f) (says-alone set 3 (rw (e, f) at h))) (λ f. rw (e, f) (says_both set (rw (e, f) at h))))

  -- ---- sets that read

  module _ (lawful : (j : ℕ) → j < proposal_count set → Item exchange (proposal j set)) where
    pub suits-says : set_suits exchange i book set ≡ true → Suits exchange i book set
    suits-says h =
        let u = suits_passed exchange i book set h in
        record {
          protocols = protocols-say u.protocols;
          each = λ j l.
              let one = u.each j l in
              (one.0, one.1, transform-says exchange i book (proposal j set) (lawful j l) one.0 one.1 one.2);
        }

    pub says-suits : Suits exchange i book set → set_suits exchange i book set ≡ true
    says-suits u =
        passed_suits exchange i book set (record {
          protocols = say-protocols u.protocols;
          each = λ j l.
              let one = u.each j l in
              (one.0, one.1, says-transform exchange i book (proposal j set) (lawful j l) one.0 one.1 one.2);
        })
