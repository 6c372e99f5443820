-- No second answer, of the family quick (OneAnswer.antt says what that is).
use Rattle.std.specs.Prelude.{ℕ, List, ◌≡◌}
use Rattle.std.proofs.Common.{sym, ap, ◌∙◌}
use denote.RattleType.{RattleType}
use denote.Param.Laws.{Laws, IsCopy}
use mir.Syntax.{Dict}
use Rattle.std.specs.declared.clone.Clone.{Ghosts as CloneGhosts}
use Rattle.refusal.specs.declared.Numbered.{Ghosts}
use Rattle.promises.specs.OneAnswer.{OneAnswer, result, part, result_and_buffer}
use Rattle.quick_end.proofs.is_idle.Kinds as is-idle-kinds
use Rattle.quick_end.proofs.is_idle.Reads as is-idle-reads
use Rattle.quick_end.proofs.is_initiator.Kinds as is-initiator-kinds
use Rattle.quick_end.proofs.is_initiator.Reads as is-initiator-reads
use Rattle.quick_end.proofs.is_given_up.Kinds as is-given-up-kinds
use Rattle.quick_end.proofs.is_given_up.Reads as is-given-up-reads
use Rattle.quick_end.proofs.fresh.Kinds as fresh-kinds
use Rattle.quick_end.proofs.fresh.Reads as fresh-reads
use Rattle.quick_shape.proofs.shape.Kinds as shape-kinds
use Rattle.quick_shape.proofs.shape.Reads as shape-reads
use Rattle.quick_shape.proofs.is_longer.Kinds as is-longer-kinds
use Rattle.quick_shape.proofs.is_longer.Reads as is-longer-reads
use Rattle.quick_shape.proofs.alike.Kinds as alike-kinds
use Rattle.quick_shape.proofs.alike.Reads as alike-reads
use Rattle.quick_shape.proofs.count_of.Kinds as count-of-kinds
use Rattle.quick_shape.proofs.count_of.Reads as count-of-reads
use Rattle.quick_shape.proofs.shape_of.Kinds as shape-of-kinds
use Rattle.quick_shape.proofs.shape_of.Reads as shape-of-reads
use Rattle.quick_shape.proofs.nonce.Kinds as nonce-kinds
use Rattle.quick_shape.proofs.nonce.Reads as nonce-reads
use Rattle.quick_step.proofs.small.Kinds as small-kinds
use Rattle.quick_step.proofs.small.Reads as small-reads
use Rattle.quick_step.proofs.kept_size.Kinds as kept-size-kinds
use Rattle.quick_step.proofs.kept_size.Reads as kept-size-reads
use Rattle.quick_step.proofs.kept.Kinds as kept-kinds
use Rattle.quick_step.proofs.kept.Reads as kept-reads
use Rattle.quick_step.proofs.with_state.Kinds as with-state-kinds
use Rattle.quick_step.proofs.with_state.Reads as with-state-reads
use Rattle.quick_agreed.proofs.spis_of.Kinds as spis-of-kinds
use Rattle.quick_agreed.proofs.spis_of.Reads as spis-of-reads
use Rattle.quick_agreed.proofs.transforms_in.Kinds as transforms-in-kinds
use Rattle.quick_agreed.proofs.transforms_in.Reads as transforms-in-reads
use Rattle.quick_agreed.proofs.own_spis.Kinds as own-spis-kinds
use Rattle.quick_agreed.proofs.own_spis.Reads as own-spis-reads
use Rattle.quick_check.proofs.read_code.Kinds as read-code-kinds
use Rattle.quick_check.proofs.read_code.Reads as read-code-reads
use Rattle.quick_taken.proofs.taken_code.Kinds as taken-code-kinds
use Rattle.quick_taken.proofs.taken_code.Reads as taken-code-reads
use Rattle.quick_taken.proofs.agreed_two.Kinds as agreed-two-kinds
use Rattle.quick_taken.proofs.agreed_two.Reads as agreed-two-reads
use Rattle.quick_write.proofs.lines.Kinds as lines-kinds
use Rattle.quick_write.proofs.lines.Reads as lines-reads
use Rattle.quick_write.proofs.put_longer.Kinds as put-longer-kinds
use Rattle.quick_write.proofs.put_longer.Reads as put-longer-reads
use Rattle.quick_write.proofs.put_three.Kinds as put-three-kinds
use Rattle.quick_write.proofs.put_three.Reads as put-three-reads
use Rattle.quick_begin.proofs.begin.Kinds as begin-kinds
use Rattle.quick_begin.proofs.begin.Reads as begin-reads
use Rattle.quick_tick.proofs.tick.Kinds as tick-kinds
use Rattle.quick_tick.proofs.tick.Reads as tick-reads
use Rattle.quick_deliver.proofs.deliver.Kinds as deliver-kinds
use Rattle.quick_deliver.proofs.deliver.Reads as deliver-reads
use Rattle.refusal.specs.contracts.Refusal as refusal
use Rattle.refusal.specs.Numbers.{number}
use Rattle.refusal.proofs.Laws.{coded-injective, coded_by-injective, number-injective}
use Rattle.quick_end.proofs.Told.{made_told-injective}
use Rattle.quick_step.specs.Steps.{After}
use Rattle.quick_step.specs.declared.Stepped.{Stepped}
use Rattle.quick_step.proofs.Told.{step_of, step-same}

pub quick_end-is_idle : OneAnswer 0 is-idle-kinds.ps is-idle-kinds.r result is-idle-reads.Post
quick_end-is_idle κs arguments x y s t p q = p ∙ sym q

pub quick_end-is_initiator : OneAnswer 0 is-initiator-kinds.ps is-initiator-kinds.r result is-initiator-reads.Post
quick_end-is_initiator κs arguments x y s t p q = p ∙ sym q

pub quick_end-is_given_up : OneAnswer 0 is-given-up-kinds.ps is-given-up-kinds.r result is-given-up-reads.Post
quick_end-is_given_up κs arguments x y s t p q = p ∙ sym q

pub quick_end-fresh : OneAnswer 2 fresh-kinds.ps fresh-kinds.r result fresh-reads.Post
quick_end-fresh κs arguments x y s t p q = made_told-injective _ _ _ (p ∙ sym q)

pub quick_shape-shape : OneAnswer 1 shape-kinds.ps shape-kinds.r result shape-reads.Post
quick_shape-shape κs arguments x y s t p q = p ∙ sym q

pub quick_shape-is_longer : OneAnswer 0 is-longer-kinds.ps is-longer-kinds.r result is-longer-reads.Post
quick_shape-is_longer κs arguments x y s t p q = p ∙ sym q

pub quick_shape-alike : OneAnswer 2 alike-kinds.ps alike-kinds.r result alike-reads.Post
quick_shape-alike κs arguments x y s t p q = p ∙ sym q

pub quick_shape-shape_of : OneAnswer 1 shape-of-kinds.ps shape-of-kinds.r result shape-of-reads.Post
quick_shape-shape_of κs arguments x y s t p q = p ∙ sym q

pub quick_shape-nonce : OneAnswer 1 nonce-kinds.ps nonce-kinds.r part nonce-reads.Post
quick_shape-nonce κs arguments x y s t p q = p ∙ sym q

pub quick_step-small : OneAnswer 3 small-kinds.ps small-kinds.r result small-reads.Post
quick_step-small κs arguments x y s t p q = p ∙ sym q

pub quick_step-kept_size : OneAnswer 0 kept-size-kinds.ps kept-size-kinds.r result kept-size-reads.Post
quick_step-kept_size κs arguments x y s t p q = p ∙ sym q

pub quick_step-kept : OneAnswer 1 kept-kinds.ps kept-kinds.r part kept-reads.Post
quick_step-kept κs arguments x y s t p q = p ∙ sym q

pub quick_step-with_state : OneAnswer 0 with-state-kinds.ps with-state-kinds.r result with-state-reads.Post
quick_step-with_state κs arguments x y s t p q = p ∙ sym q

pub quick_agreed-spis_of : OneAnswer 1 spis-of-kinds.ps spis-of-kinds.r result spis-of-reads.Post
quick_agreed-spis_of κs arguments x y s t p q = p ∙ sym q

pub quick_agreed-transforms_in : OneAnswer 1 transforms-in-kinds.ps transforms-in-kinds.r result transforms-in-reads.Post
quick_agreed-transforms_in κs arguments x y s t p q = p ∙ sym q

pub quick_agreed-own_spis : OneAnswer 1 own-spis-kinds.ps own-spis-kinds.r result own-spis-reads.Post
quick_agreed-own_spis κs arguments x y s t p q = p ∙ sym q

pub quick_taken-taken_code : OneAnswer 2 taken-code-kinds.ps taken-code-kinds.r result taken-code-reads.Post
quick_taken-taken_code κs arguments x y s t p q = coded-injective _ _ (p ∙ sym q)

pub quick_taken-agreed_two : OneAnswer 2 agreed-two-kinds.ps agreed-two-kinds.r result agreed-two-reads.Post
quick_taken-agreed_two κs arguments x y s t p q = p ∙ sym q

pub quick_write-lines : OneAnswer 1 lines-kinds.ps lines-kinds.r result lines-reads.Post
quick_write-lines κs arguments x y s t p q = p ∙ sym q

pub quick_write-put_longer : OneAnswer 4 put-longer-kinds.ps put-longer-kinds.r result_and_buffer put-longer-reads.Post
quick_write-put_longer κs arguments x y s t p q = sym p ∙ q

pub quick_write-put_three : OneAnswer 1 put-three-kinds.ps put-three-kinds.r result_and_buffer put-three-reads.Post
quick_write-put_three κs arguments x y s t p q = sym p ∙ q

pub quick_begin-begin :
    OneAnswer 5 begin-kinds.ps begin-kinds.r {A = Stepped × List ℕ × List ℕ}
    (λ κs x s. let lent = s.1.1.1.1 in (x, lent.0.now, lent.1.1.0.now))
    begin-reads.Post
quick_begin-begin κs arguments x y s t p q =
    ap (λ (left : Stepped × (List ℕ × List ℕ)). (left.0, left.1.0, left.1.1))
    (step-same {A = List ℕ × List ℕ} x y _ _ (ap (λ (a : After). (step_of a.step, (a.sent, a.output))) (sym p ∙ q)))

pub quick_tick-tick :
    OneAnswer 3 tick-kinds.ps tick-kinds.r {A = Stepped × List ℕ}
    (λ κs x s. let output = s.1.1.1.0 in (x, output.now))
    tick-reads.Post
quick_tick-tick κs arguments x y s t p q = step-same x y _ _ (ap (λ (a : After). (step_of a.step, a.output)) (sym p ∙ q))

pub quick_deliver-deliver :
    OneAnswer 4 deliver-kinds.ps deliver-kinds.r {A = Stepped × List ℕ × List ℕ × List ℕ}
    (λ κs x s. let lent = s.1.1.1 in (x, lent.0.now, lent.1.0.now, lent.1.1.0.now))
    deliver-reads.Post
quick_deliver-deliver κs arguments x y s t p q =
    ap (λ (left : Stepped × (List ℕ × List ℕ × List ℕ)). (left.0, left.1.0, left.1.1, left.1.2))
    (step-same {A = List ℕ × List ℕ × List ℕ} x y _ _ (ap (λ (a : After). (step_of a.step, (a.sent, a.got, a.output))) (sym p ∙ q)))

-- of a function over a trait: whatever its refusals are
module _ (R : RattleType) (laws : Laws R) (copy : IsCopy R) (ghosts : Ghosts R.Denot) (dict : Dict) (clone : CloneGhosts R.Denot) (clone-dict : Dict) where
  pub quick_shape-count_of : OneAnswer 1 (count-of-kinds.ps R laws copy) (count-of-kinds.r R laws copy) result (count-of-reads.Post R laws copy ghosts dict clone clone-dict)
  quick_shape-count_of κs arguments x y s t p q = p ∙ sym q

  -- where each number is that of one refusal
  pub quick_check-read_code_numbered : ((r q : R.Denot) → ghosts.numbered r ≡ ghosts.numbered q → r ≡ q) → OneAnswer 2 (read-code-kinds.ps R laws copy) (read-code-kinds.r R laws copy) result (read-code-reads.Post R laws copy ghosts dict clone clone-dict)
  quick_check-read_code_numbered one κs arguments x y s t p q = coded_by-injective ghosts.numbered one x y (p.0 ∙ sym q.0) (p.1 ∙ sym q.1)

-- a refusal has document 01's number, and that for itself: no premise is left
abbrev by_number : Ghosts refusal.the_row.Denot
by_number = record { numbered = number; of = λ refused. refused }

module _ (laws : Laws refusal.the_row) (copy : IsCopy refusal.the_row) (dict : Dict) (clone : CloneGhosts refusal.the_row.Denot) (clone-dict : Dict) where
  pub quick_check-read_code : OneAnswer 2 (read-code-kinds.ps refusal.the_row laws copy) (read-code-kinds.r refusal.the_row laws copy) result (read-code-reads.Post refusal.the_row laws copy by_number dict clone clone-dict)
  quick_check-read_code = quick_check-read_code_numbered refusal.the_row laws copy by_number dict clone clone-dict number-injective
