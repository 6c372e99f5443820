-- No second answer, of the family sequence (OneAnswer.antt says what that is).
use Rattle.std.specs.Prelude.{ℕ, ◌≡◌, refl, Bool, List, Result}
use Rattle.std.proofs.Common.{sym, ap, ap₂, ◌∙◌}
use seplogic.Ra.Ura.{Ura}
use base.Logic.{SProp}
use prog.Memory.{Memory}
use prog.Routine.{Routine}
use types.Logic.{Logic}
use contract.Monad.{Fun, fact}
use borrow.Fn.World.{ArgsD}
use contract.Lifetimes.{Lfts}
use denote.Triple.Clauses.{AtExit}
use Rattle.promises.specs.OneAnswer.{OneAnswer, result, result_and_buffer}
use Rattle.promises.specs.SequenceAnswers.{verdict-own}
use Rattle.sequence_record.proofs.new_receive.Kinds as new-receive-kinds
use Rattle.sequence_record.proofs.new_receive.Reads as new-receive-reads
use Rattle.sequence_record.proofs.behind.Kinds as behind-kinds
use Rattle.sequence_record.proofs.behind.Reads as behind-reads
use Rattle.sequence_record.proofs.step.Kinds as step-kinds
use Rattle.sequence_record.proofs.step.Reads as step-reads
use Rattle.sequence_record.proofs.loss_line.Kinds as loss-line-kinds
use Rattle.sequence_record.proofs.loss_line.Reads as loss-line-reads
use Rattle.sequence_packet.proofs.known.Kinds as known-kinds
use Rattle.sequence_packet.proofs.known.Reads as known-reads
use Rattle.sequence_packet.proofs.read.Kinds as read-kinds
use Rattle.sequence_packet.proofs.read.Reads as read-reads
use Rattle.sequence_table.proofs.table.add.Kinds as add-kinds
use Rattle.sequence_table.proofs.table.add.Reads as add_reads
use Rattle.sequence_table.proofs.table.remove.Kinds as remove-kinds
use Rattle.sequence_table.proofs.table.remove.Reads as remove-reads
use Rattle.sequence_table.proofs.table.packet.Kinds as packet-kinds
use Rattle.sequence_table.proofs.table.packet.Reads as packet-reads
use Rattle.sequence_table.proofs.table.send.Kinds as send-kinds
use Rattle.sequence_table.proofs.table.send.Reads as send-reads
use Rattle.sequence_table.proofs.table.loss.Kinds as loss-kinds
use Rattle.sequence_table.proofs.table.loss.Reads as loss-reads
use Rattle.sequence_plain.proofs.step.Kinds as plain-step-kinds
use Rattle.sequence_plain.proofs.step.Reads as plain-step-reads
use Rattle.sequence_plain.proofs.loss_line.Kinds as plain-loss-line-kinds
use Rattle.sequence_plain.proofs.loss_line.Reads as plain-loss-line-reads
use Rattle.sequence_record.specs.contracts.step_in_place as step-in-place-contract
use Rattle.sequence_record.specs.contracts.step_lent as step-lent-contract
use Rattle.sequence_record.specs.declared.Receive.{Receive}
use Rattle.sequence_record.specs.declared.Judged.{Judged}
use Rattle.sequence_record.specs.Verdict.{verdict_told, judged_told}
use Rattle.sequence_record.specs.Receive.{judged, verdict_answer}
use Rattle.sequence_record.proofs.Told.{verdict_told-injective, judged_told-injective}
use Rattle.sequence_packet.proofs.Told.{packet_told-injective}
use Rattle.sequence_table.proofs.Told.{outcome_told-injective, sending_told-injective, counted_told-injective}
use Rattle.refusal.specs.declared.Refusal.{Refusal}

pub sequence_record-new_receive : OneAnswer 0 new-receive-kinds.ps new-receive-kinds.r result new-receive-reads.Post
sequence_record-new_receive κs arguments x y s t p q = p ∙ sym q

pub sequence_record-behind : OneAnswer 0 behind-kinds.ps behind-kinds.r result behind-reads.Post
sequence_record-behind κs arguments x y s t p q = p ∙ sym q

pub sequence_record-step : OneAnswer 0 step-kinds.ps step-kinds.r result step-reads.Post
sequence_record-step κs arguments x y s t p q = judged_told-injective _ _ (p ∙ sym q)

pub sequence_record-loss_line : OneAnswer 0 loss-line-kinds.ps loss-line-kinds.r result loss-line-reads.Post
sequence_record-loss_line κs arguments x y s t p q = p ∙ sym q

pub sequence_packet-known : OneAnswer 0 known-kinds.ps known-kinds.r result known-reads.Post
sequence_packet-known κs arguments x y s t p q = p ∙ sym q

pub sequence_packet-read : OneAnswer 1 read-kinds.ps read-kinds.r result read-reads.Post
sequence_packet-read κs arguments x y s t p q = packet_told-injective _ _ (p ∙ sym q)

-- what is told of an answer, and the words beside it, are those of one answer
pub told_and_table : {A B : Type 0} {told : A → B} → ((x y : A) → told x ≡ told y → x ≡ y) → {x y : A} {t u : List ℕ} →
    ◌≡◌ {A = B × List ℕ} (told x, t) (told y, u) → ◌≡◌ {A = A × List ℕ} (x, t) (y, u)
told_and_table {A} {B} injective {x} {y} same =
    ap₂ (λ (v : A) (l : List ℕ). (v, l)) (injective x y (ap (λ (a : B × List ℕ). a.0) same)) (ap (λ (a : B × List ℕ). a.1) same)

pub sequence_table-add : OneAnswer 1 add-kinds.ps add-kinds.r result_and_buffer add_reads.Post
sequence_table-add κs arguments x y s t p q = told_and_table outcome_told-injective (sym p ∙ q)

pub sequence_table-remove : OneAnswer 1 remove-kinds.ps remove-kinds.r result_and_buffer remove-reads.Post
sequence_table-remove κs arguments x y s t p q = told_and_table outcome_told-injective (sym p ∙ q)

pub sequence_table-packet : OneAnswer 2 packet-kinds.ps packet-kinds.r result_and_buffer packet-reads.Post
sequence_table-packet κs arguments x y s t p q = told_and_table verdict_told-injective (sym p ∙ q)

pub sequence_table-send : OneAnswer 1 send-kinds.ps send-kinds.r result_and_buffer send-reads.Post
sequence_table-send κs arguments x y s t p q = told_and_table sending_told-injective (sym p ∙ q)

pub sequence_table-loss : OneAnswer 1 loss-kinds.ps loss-kinds.r result loss-reads.Post
sequence_table-loss κs arguments x y s t p q = counted_told-injective _ _ (p ∙ sym q)

pub sequence_plain-step : OneAnswer 1 plain-step-kinds.ps plain-step-kinds.r result_and_buffer plain-step-reads.Post
sequence_plain-step κs arguments x y s t p q =
    told_and_table {told = λ v. verdict_answer (verdict_told v)}
    (λ v w same. verdict_told-injective v w (verdict-own (verdict_told v) (verdict_told w) same)) (sym p ∙ q)

pub sequence_plain-loss_line : OneAnswer 1 plain-loss-line-kinds.ps plain-loss-line-kinds.r result plain-loss-line-reads.Post
sequence_plain-loss_line κs arguments x y s t p q = p ∙ sym q

-- Of the lent record each contract stands as the program logic's claim, the claim is a fact, and no second record and verdict satisfy it.
abbrev pub Lent : (before : Receive) (number : ℕ) (integrity : Bool) (after : Receive) (verdict : Result ℕ Refusal) → Type 0
Lent before number integrity after verdict = judged before number integrity ≡ record { receive = after; verdict = verdict_told verdict }

module _ {M : Type 1} {𝓤 : Ura M} (𝓛 : Logic 𝓤) (at_mem : Memory → SProp 𝓤) (run : Routine → Fun 𝓤) where
  pub sequence_record-step_in_place_claim :
      (κs : Lfts 1) (a : ArgsD step-in-place-contract.signature κs) (x : Result ℕ Refusal) (s : AtExit step-in-place-contract.ended κs) →
      (step-in-place-contract.clauses 𝓛 at_mem run κs a).ensures tt x s ≡ fact 𝓤 (Lent a.0.now a.1.0 a.1.1.0 s.0.now x)
  sequence_record-step_in_place_claim κs a x s = refl

  pub sequence_record-step_lent_claim :
      (κs : Lfts 0) (a : ArgsD step-lent-contract.signature κs) (x : Judged) (s : AtExit step-lent-contract.ended κs) →
      (step-lent-contract.clauses 𝓛 at_mem run κs a).ensures tt x s ≡ fact 𝓤 (judged_told x ≡ judged a.0 a.1.0 a.1.1.0)
  sequence_record-step_lent_claim κs a x s = refl

pub sequence_record-step_in_place :
    (before : Receive) (number : ℕ) (integrity : Bool) (r q : Receive) (x y : Result ℕ Refusal) →
    Lent before number integrity r x → Lent before number integrity q y →
    ◌≡◌ {A = Judged} (record { receive = r; verdict = x }) (record { receive = q; verdict = y })
sequence_record-step_in_place before number integrity r q x y p e =
    judged_told-injective (record { receive = r; verdict = x }) (record { receive = q; verdict = y }) (sym p ∙ e)

pub sequence_record-step_lent :
    (before : Receive) (number : ℕ) (integrity : Bool) (x y : Judged) →
    judged_told x ≡ judged before number integrity → judged_told y ≡ judged before number integrity → x ≡ y
sequence_record-step_lent before number integrity x y p q = judged_told-injective x y (p ∙ sym q)
