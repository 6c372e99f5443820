-- Our own reply is lawful: what is written of a choice reads, repeats the offer, and is the choice that it was made by.
use Prim.Native.Nat.{ℕ, ◌-◌, ◌<◌}
use mathlib.Core.Path.{◌≡◌, sym, subst, ◌∙◌}
use mathlib.Core.List.{List}
use mathlib.Core.Bool.{false}
use native.Mathlib.Omega.{arith}
use lib.ListN.{drop}
use lib.Seq.{drop-drop}
use lib.Dec.{eqb}
use borrow.Author.Tests.{eqb-true, eqb-false}
use Rattle.wire_read.proofs.Tests.{by_test}
use Rattle.sa_proposals.specs.Proposals.{offer_code}
use Rattle.sa_fields.specs.Fields.{proposal_number, transform_number}
use Rattle.sa_fields.specs.declared.ProposalNumber.{ProposalNumber}
use Rattle.sa_items.specs.Items.{proposal, proposal_count, transform}
use Rattle.sa_sets.specs.Sets.{set, set_numbered}
use Rattle.sa_sets.proofs.Places.{LawfulSet, set-lawful, set-by-number}
use Rattle.sa_found.proofs.FoundLaws.{set-few}
use Rattle.policy_lines.specs.declared.LineNumber.{LineNumber}
use Rattle.policy_suits.specs.Suits.{lowest}
use Rattle.policy_suiting.proofs.SuitLaws.{chosen_in, taken}
use Rattle.policy_choice.specs.Choice.{number_of, lowest_number, transforms_of, choose_from}
use Rattle.policy_choice.specs.Choice.{Chosen}
use Rattle.policy_choice.specs.declared.Transforms.{Transforms}
use Rattle.policy_reply.specs.Reply.{set_reply, sa_of, spis_low}
use Rattle.policy_reply.proofs.ReplyLaws.{Repeats, reply_repeats}
use Rattle.policy_repeats.specs.Repeats.{content, RepeatsProposal, RepeatsOffer, Takes, one, two, IsChoice}
use Rattle.policy_repeats.proofs.RepeatLaws.{content-number, ChoseSet}

module _ (exchange : ℕ) (book offer : List ℕ) (reads : offer_code exchange offer ≡ 0) (number : ProposalNumber) (transforms : Transforms)
    (c : ChoseSet exchange book offer number transforms) (ah esp : ℕ) (small-ah : ah < 4294967296) (small-esp : esp < 4294967296)
    (high : spis_low ah esp transforms (set_numbered number offer) ≡ false) (next : ℕ) where
  -- the body of the SA payload that is written, whatever payload comes next
  abbrev reply : List ℕ
  reply = drop 4 (sa_of next (set_reply ah esp transforms (set_numbered number offer)))

  abbrev s : List ℕ
  s = set c.k offer

  lawful : LawfulSet exchange s
  lawful = set-lawful exchange offer reads c.k c.a_set

  by_number : set_numbered number offer ≡ s
  by_number = rw (← c.its_number) (set-by-number exchange offer reads c.k c.a_set)

  repeated : Repeats exchange ah esp s (λ j. chosen_in exchange c.i book (proposal j s)) reply
  repeated =
      rw (by_number, c.taken)
      (reply_repeats exchange c.i ah esp book s lawful c.suits small-ah small-esp (rw (by_number, c.taken) at high) next)

  pub reply_reads : offer_code exchange reply ≡ 0
  reply_reads = repeated.readable

  module _ (j : ℕ) (l : j < proposal_count s) where
    abbrev p : List ℕ
    p = proposal j s

    unaltered : content (transform 0 (proposal j (set 0 reply))) ≡ content (transform (lowest exchange c.i book p - 1) p)
    unaltered = rw (repeated.each j l).same-transform (drop-drop 3 1 (chosen_in exchange c.i book p))

    its_number : transform_number (transform 0 (proposal j (set 0 reply))) ≡ lowest_number exchange c.i book p
    unfolding number_of
    its_number = content-number _ _ unaltered

    repeats-proposal : RepeatsProposal p (proposal j (set 0 reply))
    repeats-proposal = record {
      same-protocol = (repeated.each j l).same-protocol;
      one-transform = (repeated.each j l).one-transform;
      i = lowest exchange c.i book p - 1;
      offered = (taken exchange c.i book p (lawful.lawful j l) (c.suits.each j l)).0;
      unaltered = unaltered;
    }

  same_number : proposal_number (proposal 0 (set 0 reply)) ≡ proposal_number (proposal 0 s)
  same_number = (repeated.each 0 lawful.some).same_number

  pub reply_repeats-offer : RepeatsOffer offer reply
  reply_repeats-offer = record {
    one_set = repeated.alone;
    k = c.k;
    a_set = c.a_set;
    repeats = record { same_number = same_number; as_many = repeated.as_many; each = λ j l. repeats-proposal j (omega (arith, repeated.as_many)) };
  }

  takes : Takes (set 0 reply) (transforms_of exchange c.i book s)
  unfolding transforms_of
  takes =
      by_test (eqb (proposal_count s) 1)
      (λ e. rw (e, ← its_number 0 lawful.some) (one (repeated.as_many ∙ eqb-true _ _ e)))
      (λ e.
      let count : proposal_count s ≡ 2 = omega (arith, eqb-false (proposal_count s) 1 e, lawful.some, set-few exchange offer reads c.k c.a_set) in
      rw (e, ← its_number 0 lawful.some, ← its_number 1 (omega arith)) (two (repeated.as_many ∙ count)))

  pub reply_is-choice : (line : LineNumber) → choose_from exchange book offer ≡ Chosen number line transforms → IsChoice exchange book offer reply
  reply_is-choice line chosen =
      record { line = line; transforms = transforms; chosen = rw (same_number, c.its_number) chosen; takes = subst (λ (t : Transforms). Takes (set 0 reply) t) (sym c.taken) takes }
