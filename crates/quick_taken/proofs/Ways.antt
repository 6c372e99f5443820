-- A law for each way out of the functions that compare message 2 with the offer.
use Prim.Native.Nat.{ℕ}
use mathlib.Core.Path.{◌≡◌}
use mathlib.Core.List.{List}
use mathlib.Core.Bool.{Bool, true, false, not, ◌||◌, ◌&&◌}
use lib.Dec.{eqb}
use Rattle.wire_read.specs.Wire.{equal}
use Rattle.sa_fields.specs.Fields.{proposal_number, protocol, transform_count}
use Rattle.sa_fields.specs.declared.ProposalNumber.{ProposalNumber}
use Rattle.sa_items.specs.Items.{proposal, proposal_count, transform}
use Rattle.sa_sets.specs.Sets.{set, set_count, set_numbered}
use Rattle.policy_choice.specs.Choice.{body_at}
use Rattle.policy_choice.specs.declared.Transforms.{Transforms}
use Rattle.quick_end.specs.declared.Spis.{Spis}
use Rattle.quick_shape.specs.Shapes.{shape_of}
use Rattle.quick_agreed.specs.Agreed.{spis_of, transforms_in}
use Rattle.quick_taken.specs.Taken.{proposal_taken, set_taken, replied_set, offered_set, identities_same, taken_code, agreed_two}

pub proposal-compared : (p offered t u : List ℕ) (own other count : ℕ) (same : Bool) → own ≡ protocol p → other ≡ protocol offered →
    count ≡ transform_count p → same ≡ equal t u → t ≡ transform 0 p → u ≡ transform 0 offered →
    (eqb own other && eqb count 1 && same) ≡ proposal_taken p offered
unfolding proposal_taken
proposal-compared p offered t u own other count same ep eo ec es et eu = rw (← ep, ← eo, ← ec, ← et, ← eu, ← es)

pub set-compared : (s offered p q p2 q2 : List ℕ) (count other : ℕ) (first second : Bool) → count ≡ proposal_count s → other ≡ proposal_count offered →
    first ≡ proposal_taken p q → p ≡ proposal 0 s → q ≡ proposal 0 offered → second ≡ proposal_taken p2 q2 → p2 ≡ proposal 1 s → q2 ≡ proposal 1 offered →
    (eqb count other && first && (eqb count 1 || second)) ≡ set_taken s offered
unfolding set_taken
set-compared s offered p q p2 q2 count other first second ec eo ef ep eq es ep2 eq2 = rw (← ec, ← eo, ← ep, ← eq, ← ef, ← ep2, ← eq2, ← es)

pub set-replied : (m body r : List ℕ) → r ≡ set 0 body → body ≡ body_at 1 m → r ≡ replied_set m
unfolding replied_set
set-replied m body r er eb = rw (← eb) er

module _ (sent m s p : List ℕ) (number : ProposalNumber) (es : s ≡ replied_set m) (ep : p ≡ proposal 0 s) (en : number ≡ proposal_number p) where
  pub set-offered : (body r : List ℕ) → r ≡ set_numbered number body → body ≡ body_at 1 sent → r ≡ offered_set sent m
  unfolding offered_set
  set-offered body r er eb = rw (← es, ← ep, ← en, ← eb) er

  pub both_agreed : (offered : List ℕ) (transforms : Transforms) (initiator responder : Spis) → transforms ≡ transforms_in s → initiator ≡ spis_of offered →
      offered ≡ offered_set sent m → responder ≡ spis_of s →
      record { set = number; transforms = transforms; initiator = initiator; responder = responder } ≡ agreed_two sent m
  unfolding agreed_two
  both_agreed offered transforms initiator responder et ei eo er = rw (← es, ← ep, ← en, ← et, ← eo, ← ei, ← er)

pub identities_compared : (found : ℕ) (sent m a b d e : List ℕ) (first second : Bool) (shape : ℕ) → first ≡ equal a b → a ≡ body_at 3 m → b ≡ body_at 3 sent →
    second ≡ equal d e → d ≡ body_at 4 m → e ≡ body_at 4 sent → shape ≡ shape_of sent →
    (eqb found shape && (eqb found 3 || first && second)) ≡ identities_same found sent m
unfolding identities_same
identities_compared found sent m a b d e first second shape ef ea eb es ed ee eh = rw (← eh, ← ea, ← eb, ← ef, ← ed, ← ee, ← es)

module _ (found : ℕ) (sent m body s offered : List ℕ) (count : ℕ) (taken : Bool) (eb : body ≡ body_at 1 m) (ec : count ≡ set_count body)
    (es : s ≡ replied_set m) (eo : offered ≡ offered_set sent m) (et : taken ≡ set_taken s offered) where
  pub taken-other : not (eqb count 1 && taken) ≡ true → 15 ≡ taken_code found sent m
  unfolding taken_code
  taken-other h = rw (← eb, ← ec, ← es, ← eo, ← et, h)

  module _ (offers : not (eqb count 1 && taken) ≡ false) (same : Bool) (ei : same ≡ identities_same found sent m) where
    pub taken_identities : not same ≡ true → 18 ≡ taken_code found sent m
    unfolding taken_code
    taken_identities h = rw (← eb, ← ec, ← es, ← eo, ← et, offers, ← ei, h)

    pub taken_passed : not same ≡ false → 0 ≡ taken_code found sent m
    unfolding taken_code
    taken_passed h = rw (← eb, ← ec, ← es, ← eo, ← et, offers, ← ei, h)
